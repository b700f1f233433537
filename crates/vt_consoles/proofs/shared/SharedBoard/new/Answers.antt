use Rattle.std.proofs.Common.{sym, subst}
use Rattle.port_cell.specs.Seats.{AllNew}
use Rattle.port_cell.specs.Cells.{identity_of}
use Rattle.vt_consoles.specs.Boards.{BoardState}
use Rattle.vt_consoles.specs.Histories.{history_of, name_of}
use Rattle.vt_consoles.proofs.SeatLemmas.{are_here}
use Rattle.vt_consoles.proofs.shared.SharedBoard.new.Goals as goal

pub returns-clause-here : goal.returns-clause-here
returns-clause-here c =
    let cell = c.in_ok-cell.cell in
    let seats = c.in_ok-cell.all.items in
    let board = c.args.board in
    are_here _ (history_of board) 0 seats
    (subst (λ (v : BoardState). AllNew (identity_of cell) (name_of v) (history_of board) 0 seats)
    (sym c.in_ok-cell.ensures.opening) c.in_ok-cell.ensures.each)
