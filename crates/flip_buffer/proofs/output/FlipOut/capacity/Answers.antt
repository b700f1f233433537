use Rattle.std.proofs.Common.{rules}
use Rattle.flip_buffer.proofs.output.FlipOut.capacity.Goals as goal

pub returns-clause-count : goal.returns-clause-count
returns-clause-count c = search rules steps 100000
