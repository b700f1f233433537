use Rattle.order_laws.proofs.InEach.{any_turn_each, any_call_each, any_last_each, any_end_each}
use Rattle.order_laws.proofs.any_order.possible_turns_play_each.Goals as goal

pub returns : goal.returns
returns c = record { turn = any_turn_each; call = any_call_each; last = any_last_each; end = any_end_each }
