use Rattle.order_laws.proofs.Counted.{first_is}
use Rattle.order_laws.proofs.passed.callers_keep_their_steps.Goals as goal

pub returns : goal.returns
returns c = first_is
