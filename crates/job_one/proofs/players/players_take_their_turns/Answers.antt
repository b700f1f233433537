use Rattle.job_one.proofs.Turning.{turn_goes_on, last_goes_on}
use Rattle.job_one.proofs.players.players_take_their_turns.Goals as goal

pub returns : goal.returns
returns c = record { turn = turn_goes_on; last = last_goes_on }
