use Rattle.order_laws.proofs.Witnessed.{calls_begun, calls_next, in_call, call_on}
use Rattle.order_laws.proofs.acts.calls_are_played.Goals as goal

pub returns : goal.returns
returns c = record { begun = calls_begun; next = calls_next; in_call = in_call; on = call_on }
