use Rattle.order_laws.proofs.Possible.{any_in_turn, any_turn_on}
use Rattle.order_laws.proofs.passed_orders.possible_turns_are_played.Goals as goal

pub returns : goal.returns
returns c = record { in_turn = any_in_turn; on = any_turn_on }
