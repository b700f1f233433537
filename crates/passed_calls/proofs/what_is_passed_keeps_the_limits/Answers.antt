use Rattle.passed_calls.proofs.Limits.{within_limits}
use Rattle.passed_calls.proofs.what_is_passed_keeps_the_limits.Goals as goal

pub returns : goal.returns
returns c = within_limits
