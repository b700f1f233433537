use Rattle.order_laws.proofs.InEach.{call_each}
use Rattle.order_laws.proofs.each.a_call_plays_each.Goals as goal

pub returns : goal.returns
returns c = call_each
