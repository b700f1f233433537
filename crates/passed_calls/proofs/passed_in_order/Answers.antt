use Rattle.passed_calls.proofs.Ordered.{passed_in_order}
use Rattle.passed_calls.proofs.passed_in_order.Goals as goal

pub returns : goal.returns
returns c = passed_in_order
