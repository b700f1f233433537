use Rattle.order_laws.proofs.Within.{passes_then}
use Rattle.order_laws.proofs.passed.what_is_passed_goes_on.Goals as goal

pub returns : goal.returns
returns c = passes_then
