use Rattle.job_laws.proofs.OnePort.{one_port}
use Rattle.job_laws.proofs.a_port_of_processes_has_one_run.Goals as goal

pub returns : goal.returns
returns c = one_port
