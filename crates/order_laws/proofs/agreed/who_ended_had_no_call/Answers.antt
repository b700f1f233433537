use Rattle.order_laws.proofs.Agreeing.{none_left}
use Rattle.order_laws.proofs.agreed.who_ended_had_no_call.Goals as goal

pub returns : goal.returns
returns c = none_left
