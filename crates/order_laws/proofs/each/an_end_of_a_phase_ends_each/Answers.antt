use Rattle.order_laws.proofs.InEach.{end_each}
use Rattle.order_laws.proofs.each.an_end_of_a_phase_ends_each.Goals as goal

pub returns : goal.returns
returns c = end_each
