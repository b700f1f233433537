use Rattle.std.proofs.Common.{rules}
use Rattle.job_one.proofs.controls.hangup_through.Goals as goal

pub returns-in-Ended : goal.returns-in-Ended
returns-in-Ended c = search rules steps 100000
