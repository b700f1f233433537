use Rattle.order_laws.proofs.Laters.{later_before, terminal_now}
use Rattle.order_laws.proofs.passed.journals_lead_to_the_port.Goals as goal

pub returns : goal.returns
returns c = record { before = later_before; terminal = terminal_now }
