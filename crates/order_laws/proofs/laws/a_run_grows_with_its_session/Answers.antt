use Rattle.order_laws.proofs.Growing.{grows}
use Rattle.order_laws.proofs.laws.a_run_grows_with_its_session.Goals as goal

pub returns : goal.returns
returns c = grows
