use Rattle.std.proofs.Common.{rules}
use Rattle.job_one.proofs.desks.Desk.send_on.Goals as goal

pub returns-clause-ok : goal.returns-clause-ok
returns-clause-ok c = search rules steps 1000000
