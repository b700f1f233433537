use Rattle.job_laws.proofs.SignalLaws.{goes_to_foreground}
use Rattle.job_laws.proofs.port_signals_go_to_the_foreground.Goals as goal

pub returns : goal.returns
returns c = goes_to_foreground
