use Rattle.job_one.proofs.Turning.{own_goes_on}
use Rattle.job_one.proofs.players.players_answer_calls.Goals as goal

pub returns : goal.returns
returns c = record { own = own_goes_on }
