use Rattle.std.proofs.Common.{subst, zero-add}
use Rattle.tty_port.specs.Shared.{IsHere, AreHere, opening_history}
use Rattle.tty_port.proofs.Seating.{here_front}
use Rattle.many_threads.proofs.seats.last_seat.Goals as goal

pub returns-clause-seat : goal.returns-clause-seat
returns-clause-seat c =
    let p = c.args.shared.now in
    let xs = opening_history p in
    let seat = c.in-Some.seat in
    let front = here_front p xs 0 c.pop.new.self.items seat
    (subst (λ ss. AreHere p xs 0 ss) c.in-Some.ensures.items c.requires.here) in
    subst (λ n. IsHere p n seat) (zero-add _) front.1.0

pub returns-clause-seen : goal.returns-clause-seen
returns-clause-seen c =
    let p = c.args.shared.now in
    let xs = opening_history p in
    (here_front p xs 0 c.pop.new.self.items c.in-Some.seat
    (subst (λ ss. AreHere p xs 0 ss) c.in-Some.ensures.items c.requires.here)).1.1

pub returns-clause-others : goal.returns-clause-others
returns-clause-others c =
    let p = c.args.shared.now in
    let xs = opening_history p in
    (here_front p xs 0 c.pop.new.self.items c.in-Some.seat
    (subst (λ ss. AreHere p xs 0 ss) c.in-Some.ensures.items c.requires.here)).0
