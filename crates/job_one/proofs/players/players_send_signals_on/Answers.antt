use Rattle.job_one.proofs.Turning.{due_goes_on, signal_goes_on}
use Rattle.job_one.proofs.players.players_send_signals_on.Goals as goal

pub returns : goal.returns
returns c = record { due = due_goes_on; raised = signal_goes_on }
