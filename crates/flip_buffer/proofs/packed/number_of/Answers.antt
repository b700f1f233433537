use Rattle.std.proofs.Common.{rules}
use Rattle.flip_buffer.proofs.packed.number_of.Goals as goal

pub returns : goal.returns
returns c = search rules steps 1000000
