use Rattle.vt_threads.proofs.SeatsBack.{phase_made}
use Rattle.vt_threads.proofs.closing.close_board.Goals as goal

pub returns-clause-phase : goal.returns-clause-phase
returns-clause-phase c names phase first went h = phase_made names phase first went c.args.shared c.args.seats.items
    c.close.result c.requires.all c.close.ensures.list c.close.ensures.seats h
