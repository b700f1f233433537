use Rattle.order_laws.proofs.Opening.{opened_each}
use Rattle.order_laws.proofs.each.a_port_that_opens_is_before_each.Goals as goal

pub returns : goal.returns
returns c = opened_each
