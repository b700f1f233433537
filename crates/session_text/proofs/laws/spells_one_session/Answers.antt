use Rattle.session_text.proofs.Spelled.{spelled_once}
use Rattle.session_text.proofs.laws.spells_one_session.Goals as goal

pub returns : goal.returns
returns c = spelled_once
