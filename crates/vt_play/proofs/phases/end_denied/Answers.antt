use Rattle.vt_play.proofs.Denials.{denied_so}
use Rattle.vt_play.proofs.phases.end_denied.Goals as goal

pub returns-clause-denied : goal.returns-clause-denied
returns-clause-denied c opening phase_of number begun some =
    denied_so c.args.of c.args.shared c.args.seats.items c.close-board.result c.requires.all c.close-board.ensures.list
    c.close-board.ensures.seats opening phase_of number begun c.args.denied some
