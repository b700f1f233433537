use Rattle.order_laws.proofs.Possible.{any_end_on}
use Rattle.order_laws.proofs.passed_orders.phases_end_in_any_order.Goals as goal

pub returns : goal.returns
returns c = record { on = any_end_on }
