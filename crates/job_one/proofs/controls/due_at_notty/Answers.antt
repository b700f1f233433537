use Rattle.std.proofs.Common.{rules}
use Rattle.job_one.proofs.controls.due_at_notty.Goals as goal

pub returns-then-controls : goal.returns-then-controls
returns-then-controls c = search rules steps 100000
