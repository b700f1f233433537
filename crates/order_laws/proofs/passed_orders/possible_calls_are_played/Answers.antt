use Rattle.order_laws.proofs.Possible.{any_begun, any_next, any_in_call, any_call_on}
use Rattle.order_laws.proofs.passed_orders.possible_calls_are_played.Goals as goal

pub returns : goal.returns
returns c = record { begun = any_begun; next = any_next; in_call = any_in_call; on = any_call_on }
