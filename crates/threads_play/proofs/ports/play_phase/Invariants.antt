use Rattle.play_base.specs.Roles.{scene_of}
use Rattle.threads_play.proofs.ports.play_phase.Given as goal

abbrev pub ghost-play_on : goal.ghost-play_on
ghost-play_on g a = scene_of a.port.number a.session.now
