use Rattle.order_laws.proofs.InEach.{last_each}
use Rattle.order_laws.proofs.each.an_end_of_calls_plays_each.Goals as goal

pub returns : goal.returns
returns c = last_each
