use Rattle.order_laws.proofs.Possible.{any_in_last, any_last_on}
use Rattle.order_laws.proofs.passed_orders.possible_calls_end.Goals as goal

pub returns : goal.returns
returns c = record { in_last = any_in_last; on = any_last_on }
