use Rattle.job_ports.proofs.Playing.{full_played}
use Rattle.job_ports.proofs.laws.a_full_port_was_played.Goals as goal

pub returns : goal.returns
returns c = full_played
