use Rattle.order_laws.proofs.OneRun.{one_run}
use Rattle.order_laws.proofs.laws.a_session_has_one_run.Goals as goal

pub returns : goal.returns
returns c = one_run
