use Rattle.read_back.proofs.Runs.{are_read_back}
use Rattle.read_back.proofs.laws.legal_runs_are_read_back.Goals as goal

pub returns : goal.returns
returns c = are_read_back
