use Rattle.std.proofs.Common.{rules}
use Rattle.threads_play.proofs.ports.play_work.Goals as goal

pub play_shared-requires : goal.play_shared-requires
play_shared-requires g c κs within = (search rules, (search rules, (search rules, (search rules, c.requires.1.1.1.1))))
