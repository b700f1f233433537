use Rattle.order_laws.proofs.Possible.{any_begins_line, any_begins_playing}
use Rattle.order_laws.proofs.passed_orders.phases_begin_in_any_order.Goals as goal

pub returns : goal.returns
returns c = record { line = any_begins_line; playing = any_begins_playing }
