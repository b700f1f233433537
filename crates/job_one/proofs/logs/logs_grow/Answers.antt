use Rattle.job_one.proofs.Logging.{logs_own, logs_passed, logs_due, logs_down, logs_raised, log_stays}
use Rattle.job_one.proofs.logs.logs_grow.Goals as goal

pub returns : goal.returns
returns c = record {
  own = logs_own;
  passed = logs_passed;
  due = logs_due;
  down = logs_down;
  raised = logs_raised;
  stays = log_stays;
}
