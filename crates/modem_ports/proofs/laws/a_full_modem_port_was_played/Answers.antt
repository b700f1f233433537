use Rattle.modem_ports.proofs.Playing.{full_played}
use Rattle.modem_ports.proofs.laws.a_full_modem_port_was_played.Goals as goal

pub returns : goal.returns
returns c = full_played
