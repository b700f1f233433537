use Rattle.order_laws.proofs.Agreeing.{next_made}
use Rattle.order_laws.proofs.agreed.a_call_made_was_next.Goals as goal

pub returns : goal.returns
returns c = next_made
