use Rattle.std.proofs.Common.{rules}
use Rattle.job_one.proofs.desks.Desk.judge_through.Goals as goal

pub returns-in-Some : goal.returns-in-Some
returns-in-Some c = search rules steps 300000
