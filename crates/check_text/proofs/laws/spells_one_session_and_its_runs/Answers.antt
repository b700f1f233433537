use Rattle.check_text.proofs.Spelled.{spelled_once}
use Rattle.check_text.proofs.laws.spells_one_session_and_its_runs.Goals as goal

pub returns : goal.returns
returns c = spelled_once
