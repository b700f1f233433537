use Rattle.passed_calls.proofs.Played.{played_calls}
use Rattle.passed_calls.proofs.played_calls_are_those_passed.Goals as goal

pub returns : goal.returns
returns c = played_calls
