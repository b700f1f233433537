use Rattle.std.proofs.Common.{length}
use Rattle.threads_play.proofs.callers.+play_callers.Given as goal

abbrev pub decreases-play_callers : goal.decreases-play_callers
decreases-play_callers g l = length l.cast.now
