use Rattle.tty_one.proofs.ModemLinesPlayed.{modem_lines_can}
use Rattle.tty_one.proofs.modems.run_modem.Goals as goal

pub run_session-requires : goal.run_session-requires
run_session-requires g c =
    modem_lines_can (g.S.Source.faults c.args.source.now) (g.S.Source.faults c.read_modem.new.source)
    (g.S.Source.left c.args.source.now) (g.S.Source.left c.read_modem.new.source) c.in_ok-session.field-0
    c.in-Of.session c.in-Of.is c.in_ok-session.ensures.read
