use Rattle.job_one.proofs.Phasing.{phase_begins, phase_ends}
use Rattle.job_one.proofs.players.phases_of_processes_are_played.Goals as goal

pub returns : goal.returns
returns c = record { begins = phase_begins; ends = phase_ends }
