use Rattle.play_base.specs.Roles.{scene_of}
use Rattle.job_text.specs.Sessions.{jobs_session_of}
use Rattle.job_ports.specs.Between.{IsBetween, setting_of}
use Rattle.job_ports.proofs.ports.play_phases.Given as goal

abbrev pub ghost-play_phase : goal.ghost-play_phase
ghost-play_phase a = setting_of a.number a.session.now a.k

abbrev pub invariant-loop-k : goal.invariant-loop-k
invariant-loop-k l = IsBetween (scene_of l.number l.session.session) (jobs_session_of l.session) l.k l.run l.at
