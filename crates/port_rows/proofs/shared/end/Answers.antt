use Rattle.std.proofs.Common.{◌≡◌, ℕ, ◌+◌, List, [], ◌∷◌, rules, sym, ap, subst}
use Rattle.port_cell.specs.Cells.{opening_value}
use Rattle.port_cell.specs.Seats.{HasAll}
use Rattle.tty_port.specs.Calls.{PortSeat}
use Rattle.tty_port.proofs.Seating.{AreNumbered, has_numbered}
use Rattle.port_rows.proofs.shared.end.Goals as goal

pub close-requires-clause-all : goal.close-requires-clause-all
close-requires-clause-all c =
    let all : List PortSeat =
    c.args.seats.first ∷ c.args.seats.second ∷ c.args.seats.flusher ∷ c.args.seats.line ∷ c.args.seats.clock
    ∷ c.args.seats.session ∷ [] in
    let items : c.in-Ok.all.items ≡ all = first_of (cc, search rules) in
    let many : 6 ≡ (opening_value c.args.shared.cell).callers + 4 = ap (λ (n : ℕ). n + 4) (sym c.requires.callers) in
    let first = c.requires.first in
    let flusher = c.requires.flusher in
    let others = c.requires.others in
    let numbered : AreNumbered 0 all =
    (first.0.number, (first.1.number, (flusher.number, (others.0.number, (others.1.number, (others.2.number, tt))))))
    in
    subst (λ (n : ℕ). HasAll n c.in-Ok.all.items) many (subst (HasAll 6) (sym items) (has_numbered all numbered))
