use Rattle.play_base.specs.Roles.{scene_of}
use Rattle.play_base.specs.Phases.{IsBeforePhase}
use Rattle.one_thread.proofs.ports.play_phases.Given as goal

abbrev pub ghost-play_phase : goal.ghost-play_phase
ghost-play_phase a = scene_of a.number a.session.now

abbrev pub invariant-loop-k : goal.invariant-loop-k
invariant-loop-k l = IsBeforePhase (scene_of l.number l.session) l.k l.station l.run
