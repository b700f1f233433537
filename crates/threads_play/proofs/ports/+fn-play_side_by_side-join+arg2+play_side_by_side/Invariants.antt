use Rattle.std.proofs.Common.{length}
use Rattle.threads_play.proofs.ports.+fn-play_side_by_side-join+arg2+play_side_by_side.Given as goal

abbrev pub decreases-join+arg2 : goal.decreases-join+arg2
decreases-join+arg2 g l = length l.ports.items

abbrev pub decreases-play_side_by_side : goal.decreases-play_side_by_side
decreases-play_side_by_side g l = length l.ports.items
