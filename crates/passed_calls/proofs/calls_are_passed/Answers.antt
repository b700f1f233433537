use Rattle.passed_calls.proofs.Stepped.{calls_are_passed}
use Rattle.passed_calls.proofs.calls_are_passed.Goals as goal

pub returns : goal.returns
returns c = calls_are_passed
