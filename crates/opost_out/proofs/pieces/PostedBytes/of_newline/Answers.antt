use Rattle.std.proofs.Common.{rules}
use Rattle.opost_out.proofs.pieces.PostedBytes.of_newline.Goals as goal

pub returns : goal.returns
returns c = search rules steps 100000
