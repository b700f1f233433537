use Rattle.modem_text.specs.Sessions.{modem_session_of}
use Rattle.tty_one.proofs.ModemLinesPlayed.{played_modem_lines}
use Rattle.tty_one.proofs.modems.run_session.Goals as goal

pub modem_run-requires : goal.modem_run-requires
modem_run-requires c = c.requires.within

pub returns-clause-told : goal.returns-clause-told
returns-clause-told c =
    played_modem_lines (modem_session_of c.args.session.now) c.in_ok-ran.ran c.requires c.in_ok-ran.ensures.played
    c.in_ok-ran.ensures.within c.work_of.result c.work_of.ensures.ending c.work_of.ensures.brought
