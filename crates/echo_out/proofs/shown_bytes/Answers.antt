use Rattle.std.proofs.Common.{rules}
use Rattle.echo_out.proofs.shown_bytes.Goals as goal

pub returns-then-has-clause-bytes : goal.returns-then-has-clause-bytes
returns-then-has-clause-bytes c = search rules steps 300000
