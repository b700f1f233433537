use Rattle.tty_one.proofs.ConsolesPlayed.{consoles_can}
use Rattle.tty_one.proofs.consoles.run_vt.Goals as goal

pub run_session-requires : goal.run_session-requires
run_session-requires g c =
    consoles_can (g.S.Source.faults c.args.source.now) (g.S.Source.faults c.read_consoles.new.source)
    (g.S.Source.left c.args.source.now) (g.S.Source.left c.read_consoles.new.source) c.in_ok-session.field-0
    c.in-Of.session c.in-Of.is c.in_ok-session.ensures.read
