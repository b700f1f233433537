use Rattle.modem_ports.proofs.Playing.{hung_up_played}
use Rattle.modem_ports.proofs.laws.a_modem_port_hung_up_was_played.Goals as goal

pub returns : goal.returns
returns c = hung_up_played
