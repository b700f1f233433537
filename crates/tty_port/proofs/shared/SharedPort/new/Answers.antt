use Rattle.std.proofs.Common.{sym, subst}
use Rattle.port_cell.specs.Seats.{AllNew}
use Rattle.port_cell.specs.Cells.{identity_of}
use Rattle.tty_port.specs.Histories.{history_of, name_of}
use Rattle.tty_port.specs.declared.kept_port.KeptPort.{KeptPort}
use Rattle.tty_port.proofs.Seating.{are_here}
use Rattle.tty_port.proofs.shared.SharedPort.new.Goals as goal

pub returns-clause-here : goal.returns-clause-here
returns-clause-here c =
    let cell = c.in_ok-cell.cell in
    let seats = c.in_ok-cell.all.items in
    are_here _ _ 0 seats
    (subst (λ (v : KeptPort). AllNew (identity_of cell) (name_of v) (history_of v) 0 seats)
    (sym c.in_ok-cell.ensures.opening) c.in_ok-cell.ensures.each)
