use Rattle.std.proofs.Common.{ap, map}
use Rattle.vt_text.specs.Sessions.{vt_phase_of, vt_session_of}
use Rattle.tty_one.proofs.ConsolesPlayed.{played_in_order}
use Rattle.tty_one.proofs.consoles.run_session.Goals as goal

pub returns-in-Ok-clause-told : goal.returns-in-Ok-clause-told
returns-in-Ok-clause-told c =
    played_in_order (vt_session_of c.args.session.now) c.in-Ok.played c.requires c.in-Ok.ensures.played
    (vt_session_of c.play_vt.new.session) c.work_of_consoles.result c.in-Ok.ensures.in_order c.in-Ok.ensures.keyed
    (ap (λ phases. map vt_phase_of phases.items) c.in-Ok.ensures.phases)
    c.work_of_consoles.ensures.ending c.work_of_consoles.ensures.brought
