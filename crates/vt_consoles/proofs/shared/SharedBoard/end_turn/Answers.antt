use Rattle.port_cell.specs.Lent.{value_in}
use Rattle.vt_consoles.proofs.SeatLemmas.{may_note, installed_same}
use Rattle.vt_consoles.proofs.shared.SharedBoard.end_turn.Goals as goal

pub note-requires-clause-generation : goal.note-requires-clause-generation
note-requires-clause-generation c =
    may_note c.args.seat.now (value_in c.args.turn) c.requires.lowered c.requires.generation

pub give-requires-clause-installed : goal.give-requires-clause-installed
give-requires-clause-installed c =
    c.note.ensures.lowered
    (installed_same c.args.seat.now (value_in c.args.turn) c.requires.lowered c.requires.generation)
