use Rattle.order_laws.proofs.InEach.{turn_each}
use Rattle.order_laws.proofs.each.a_turn_plays_each.Goals as goal

pub returns : goal.returns
returns c = turn_each
