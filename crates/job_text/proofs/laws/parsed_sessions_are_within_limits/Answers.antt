use Rattle.job_text.proofs.Left.{session_within}
use Rattle.job_text.proofs.laws.parsed_sessions_are_within_limits.Goals as goal

pub returns : goal.returns
returns c = session_within
