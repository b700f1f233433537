use Rattle.std.proofs.Common.{◌≡◌, ◌+◌, List, sym, subst}
use Rattle.port_cell.specs.Knowledge.{number_of}
use Rattle.port_cell.specs.Seats.{EachSeat, HasAll}
use Rattle.tty_port.specs.Calls.{PortSeat}
use Rattle.tty_port.specs.Shared.{IsHere, name_of_port}
use Rattle.tty_port.specs.declared.shared.SharedPort.{SharedPort}
use Rattle.many_threads.specs.PhaseEnds.{all_seats}
use Rattle.many_threads.proofs.Gathering.{closed_with, gathered_here, gathered_all}
use Rattle.many_threads.proofs.Onward.{at_ok}
use Rattle.many_threads.proofs.shared_phase.unshare.Goals as goal

pub close-requires-clause-here : goal.close-requires-clause-here
close-requires-clause-here c =
    let all : List PortSeat = c.in_ok-shared.all.items in
    let are = at_ok c.gather-all.result c.in_ok-shared.all (λ v. v.items ≡ all_seats c.args.seats)
    c.in_ok-shared.ensures.made c.gather-all.ensures in
    subst (λ (p : SharedPort). EachSeat (λ s. IsHere p (number_of s) s) all) (sym c.in_ok-shared.ensures.kept)
    (gathered_here c.args.shared c.args.seats all c.requires are)

pub close-requires-clause-all : goal.close-requires-clause-all
close-requires-clause-all c =
    let all : List PortSeat = c.in_ok-shared.all.items in
    let are = at_ok c.gather-all.result c.in_ok-shared.all (λ v. v.items ≡ all_seats c.args.seats)
    c.in_ok-shared.ensures.made c.gather-all.ensures in
    subst (λ (p : SharedPort). HasAll ((name_of_port p).callers + 4) all) (sym c.in_ok-shared.ensures.kept)
    (gathered_all c.args.shared c.args.seats all c.requires are)

pub returns : goal.returns
returns c =
    let are = at_ok c.gather-all.result c.in_ok-shared.all (λ v. v.items ≡ all_seats c.args.seats)
    c.in_ok-shared.ensures.made c.gather-all.ensures in
    closed_with c.args.shared c.in_ok-shared.shared c.args.seats c.in_ok-shared.all.items c.close.result
    c.in_ok-shared.ensures.kept are c.close.ensures.port c.close.ensures.name c.close.ensures.seats
    c.close.ensures.history
