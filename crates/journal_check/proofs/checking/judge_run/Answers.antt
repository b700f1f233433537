use Rattle.std.proofs.Common.{rules}
use Rattle.journal_check.proofs.checking.judge_run.Goals as goal

pub returns-in-Some : goal.returns-in-Some
returns-in-Some c = search rules steps 1000000
