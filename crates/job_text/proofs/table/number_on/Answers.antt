use Rattle.std.proofs.Common.{rules}
use Rattle.job_text.proofs.table.number_on.Goals as goal

pub returns-in-Some : goal.returns-in-Some
returns-in-Some c = search rules steps 100000
