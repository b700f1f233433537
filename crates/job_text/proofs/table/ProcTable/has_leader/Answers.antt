use Rattle.std.proofs.Common.{rules}
use Rattle.job_text.proofs.table.ProcTable.has_leader.Goals as goal

pub returns : goal.returns
returns c = search rules steps 100000
