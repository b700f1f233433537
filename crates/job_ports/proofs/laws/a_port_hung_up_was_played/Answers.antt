use Rattle.job_ports.proofs.Playing.{hung_up_played}
use Rattle.job_ports.proofs.laws.a_port_hung_up_was_played.Goals as goal

pub returns : goal.returns
returns c = hung_up_played
