use Rattle.order_laws.proofs.Blocks.{of_blocks, same_shape}
use Rattle.order_laws.proofs.passed.sessions_of_blocks_have_one_shape.Goals as goal

pub returns : goal.returns
returns c = record { of_blocks = of_blocks; shape = same_shape }
