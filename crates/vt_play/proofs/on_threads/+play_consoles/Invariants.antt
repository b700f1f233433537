use Rattle.std.proofs.Common.{length}
use Rattle.vt_play.proofs.on_threads.+play_consoles.Given as goal

abbrev pub decreases-play_consoles : goal.decreases-play_consoles
decreases-play_consoles g l = length l.owns.items
