use Rattle.std.proofs.Common.{rules}
use Rattle.echo_out.proofs.rubout_bytes.Goals as goal

pub returns-then-b-eq-TAB : goal.returns-then-b-eq-TAB
returns-then-b-eq-TAB c = search rules steps 100000
