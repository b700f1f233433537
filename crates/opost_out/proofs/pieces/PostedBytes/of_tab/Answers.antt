use Rattle.std.proofs.Common.{rules}
use Rattle.opost_out.proofs.pieces.PostedBytes.of_tab.Goals as goal

pub returns-then-has : goal.returns-then-has
returns-then-has c = search rules steps 100000
