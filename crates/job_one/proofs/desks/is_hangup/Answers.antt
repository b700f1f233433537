use Rattle.std.proofs.Common.{rules}
use Rattle.job_one.proofs.desks.is_hangup.Goals as goal

pub returns-in-Vhangup-Done : goal.returns-in-Vhangup-Done
returns-in-Vhangup-Done c = search rules steps 100000
