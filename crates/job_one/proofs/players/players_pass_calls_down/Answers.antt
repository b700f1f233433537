use Rattle.job_one.proofs.Turning.{call_begins, call_continues, call_waits, call_answered}
use Rattle.job_one.proofs.players.players_pass_calls_down.Goals as goal

pub returns : goal.returns
returns c = record { begins = call_begins; begun = call_continues; waits = call_waits; answered = call_answered }
