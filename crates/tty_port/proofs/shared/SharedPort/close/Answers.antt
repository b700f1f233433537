use Rattle.std.proofs.Common.{ℕ, ◌<◌, ap, subst}
use Rattle.port_cell.specs.Cells.{opening_value, seat_count}
use Rattle.port_cell.specs.Entries.{GoesOn}
use Rattle.port_cell.specs.Seats.{EachSeat}
use Rattle.tty_port.specs.Inside.{Name}
use Rattle.tty_port.specs.Histories.{history_in}
use Rattle.tty_port.specs.Shared.{HasAllOf, opening_history}
use Rattle.tty_port.proofs.Seating.{each_both}
use Rattle.tty_port.proofs.shared.SharedPort.close.Goals as goal

pub returns-clause-seats : goal.returns-clause-seats
returns-clause-seats c =
    let v = c.close-kept.result.port.value in
    let callers = ap (λ (n : Name). n.callers) c.close-kept.ensures.opening in
    rw c.into_inner.ensures
    (subst (λ (m : ℕ). EachSeat (HasAllOf (history_in m v)) c.args.seats.items) callers
    (each_both _ _ (HasAllOf (history_in c.close-kept.result.callers v))
    (λ s begins own. record { begins = begins; own = own }) c.args.seats.items
    c.close-kept.ensures.seats c.close-kept.ensures.own))

pub returns-clause-list : goal.returns-clause-list
returns-clause-list c =
    let v = c.close-kept.result.port.value in
    let callers = ap (λ (n : Name). n.callers) c.close-kept.ensures.opening in
    rw c.into_inner.ensures
    (subst (λ (m : ℕ).
    GoesOn (λ k. k < m) (opening_history c.args.self) (history_in (opening_value c.args.self.cell).callers v))
    c.args.self.counted
    (subst (λ (m : ℕ). GoesOn (λ k. k < seat_count c.args.self.cell) (opening_history c.args.self) (history_in m v))
    callers c.close-kept.ensures.list))
