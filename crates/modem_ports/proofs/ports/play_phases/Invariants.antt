use Rattle.play_base.specs.Roles.{scene_of}
use Rattle.modem_text.specs.Sessions.{modem_session_of}
use Rattle.modem_ports.specs.Between.{IsBetween, setting_of}
use Rattle.modem_ports.proofs.ports.play_phases.Given as goal

abbrev pub ghost-play_phase : goal.ghost-play_phase
ghost-play_phase a = setting_of a.number a.session.now a.base.now a.k

abbrev pub invariant-loop-k : goal.invariant-loop-k
invariant-loop-k l = IsBetween (scene_of l.number l.base) (modem_session_of l.session) l.k l.run l.at
