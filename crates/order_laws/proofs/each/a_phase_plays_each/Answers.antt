use Rattle.order_laws.proofs.InEach.{phase_each}
use Rattle.order_laws.proofs.each.a_phase_plays_each.Goals as goal

pub returns : goal.returns
returns c = phase_each
