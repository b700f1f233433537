use Rattle.std.proofs.Common.{rules}
use Rattle.echo_out.proofs.unechoed.Goals as goal

pub returns-else-has : goal.returns-else-has
returns-else-has c = search rules steps 100000

pub returns-then-has : goal.returns-then-has
returns-then-has c = search rules steps 100000
