use Rattle.std.proofs.Common.{rules}
use Rattle.job_text.proofs.blocks.OpenBlock.open.Goals as goal

pub returns-then-contains : goal.returns-then-contains
returns-then-contains c = search rules steps 100000

pub returns-else-contains : goal.returns-else-contains
returns-else-contains c = search rules steps 100000

pub invariant_of-self-else-contains : goal.invariant_of-self-else-contains
invariant_of-self-else-contains c = search rules steps 100000
