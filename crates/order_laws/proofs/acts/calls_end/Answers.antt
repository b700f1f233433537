use Rattle.order_laws.proofs.Witnessed.{in_last, last_on}
use Rattle.order_laws.proofs.acts.calls_end.Goals as goal

pub returns : goal.returns
returns c = record { in_last = in_last; on = last_on }
