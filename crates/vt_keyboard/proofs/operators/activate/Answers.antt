use Rattle.std.proofs.Common.{rules}
use Rattle.vt_consoles.specs.declared.entries.VtEvent.TheVariants.{Activate}
use Rattle.vt_consoles.specs.Seats.{Makes}
use Rattle.vt_consoles.specs.Shared.{name_of_board}
use Rattle.vt_keyboard.proofs.SeatLemmas.{activated}
use Rattle.vt_keyboard.proofs.operators.activate.Goals as goal

pub returns-in-Ok-clause-ok : goal.returns-in-Ok-clause-ok
returns-in-Ok-clause-ok g c =
    let name = name_of_board c.args.board.now in
    let makes : Makes name c.args.number (Activate c.args.n) c.args.seat.now c.activate.new.seat =
    first_of (search rules, cc) in
    activated name c.args.number c.args.n c.args.seat.now c.activate.new.seat makes
