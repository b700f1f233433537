use Rattle.std.proofs.Common.{length}
use Rattle.vt_play.proofs.whole_consoles.+whole_all.Given as goal

abbrev pub decreases-whole_all : goal.decreases-whole_all
decreases-whole_all l = length l.all.kept.items
