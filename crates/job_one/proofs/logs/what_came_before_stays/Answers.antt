use Rattle.job_steps.proofs.Moments.{now_before, event_behind}
use Rattle.job_one.proofs.logs.what_came_before_stays.Goals as goal

pub returns : goal.returns
returns c = record { now = now_before; behind = event_behind }
