use Rattle.modem_laws.proofs.OnePort.{one_port}
use Rattle.modem_laws.proofs.a_port_with_modem_lines_has_one_run.Goals as goal

pub returns : goal.returns
returns c = one_port
