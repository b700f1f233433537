use Rattle.vt_text.specs.Sessions.{vt_session_of}
use Rattle.tty_one.proofs.ConsolesPlayed.{played_on_threads}
use Rattle.tty_run.proofs.consoles.play_consoles.Goals as goal

pub returns-in-Ok-clause-told : goal.returns-in-Ok-clause-told
returns-in-Ok-clause-told g c =
    played_on_threads (vt_session_of c.args.session.now) c.in-Ok.played c.requires c.in-Ok.ensures.played
    c.work_of_consoles.result c.work_of_consoles.ensures.ending c.work_of_consoles.ensures.brought
