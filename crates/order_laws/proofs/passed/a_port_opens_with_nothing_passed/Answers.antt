use Rattle.order_laws.proofs.Opens.{opens_with_none, nothing_before}
use Rattle.order_laws.proofs.passed.a_port_opens_with_nothing_passed.Goals as goal

pub returns : goal.returns
returns c = record { opens = opens_with_none; before = nothing_before }
