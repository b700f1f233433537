use Rattle.order_laws.proofs.Possible.{turn_taken, call_taken, last_taken}
use Rattle.order_laws.proofs.passed_orders.each_takes_the_turn.Goals as goal

pub returns : goal.returns
returns c = record { turn = turn_taken; call = call_taken; last = last_taken }
