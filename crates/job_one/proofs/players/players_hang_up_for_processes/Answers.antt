use Rattle.job_one.proofs.Turning.{hangup_begins, hangup_goes_on}
use Rattle.job_one.proofs.players.players_hang_up_for_processes.Goals as goal

pub returns : goal.returns
returns c = record { begins = hangup_begins; answered = hangup_goes_on }
