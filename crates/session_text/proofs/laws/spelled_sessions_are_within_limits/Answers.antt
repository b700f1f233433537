use Rattle.session_text.proofs.Within.{spelled_within}
use Rattle.session_text.proofs.laws.spelled_sessions_are_within_limits.Goals as goal

pub returns : goal.returns
returns c = spelled_within
