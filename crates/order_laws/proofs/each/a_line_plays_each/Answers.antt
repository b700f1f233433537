use Rattle.order_laws.proofs.InEach.{line_each}
use Rattle.order_laws.proofs.each.a_line_plays_each.Goals as goal

pub returns : goal.returns
returns c = line_each
