use Rattle.job_one.proofs.Following.{passings_more, latest_is}
use Rattle.job_one.proofs.orders.passings_follow_the_log.Goals as goal

pub returns : goal.returns
returns c = record { passings = passings_more; latest = latest_is }
