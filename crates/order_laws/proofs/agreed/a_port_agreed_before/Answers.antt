use Rattle.order_laws.proofs.Agreeing.{before}
use Rattle.order_laws.proofs.agreed.a_port_agreed_before.Goals as goal

pub returns : goal.returns
returns c = before
