use Rattle.order_laws.proofs.Casts.{roles_each}
use Rattle.order_laws.proofs.passed.roles_are_cast_for_each.Goals as goal

pub returns : goal.returns
returns c = roles_each
