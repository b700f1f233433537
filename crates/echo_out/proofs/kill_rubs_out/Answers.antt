use Rattle.std.proofs.Common.{rules}
use Rattle.echo_out.proofs.kill_rubs_out.Goals as goal

pub returns-then-has-2 : goal.returns-then-has-2
returns-then-has-2 c = search rules steps 100000
