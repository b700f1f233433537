use Rattle.order_laws.proofs.Witnessed.{end_on}
use Rattle.order_laws.proofs.acts.phases_end.Goals as goal

pub returns : goal.returns
returns c = record { on = end_on }
