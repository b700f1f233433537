use Rattle.order_laws.proofs.InEach.{any_before_each, any_line_each, any_phase_each}
use Rattle.order_laws.proofs.any_order.phases_play_each_in_any_order.Goals as goal

pub returns : goal.returns
returns c = record { before = any_before_each; line = any_line_each; phase = any_phase_each }
