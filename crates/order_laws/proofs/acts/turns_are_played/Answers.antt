use Rattle.order_laws.proofs.Witnessed.{in_turn, turn_on}
use Rattle.order_laws.proofs.acts.turns_are_played.Goals as goal

pub returns : goal.returns
returns c = record { in_turn = in_turn; on = turn_on }
