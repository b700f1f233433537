use Rattle.job_text.proofs.Left.{session_left}
use Rattle.job_text.proofs.laws.what_is_left_is_a_session.Goals as goal

pub returns : goal.returns
returns c = session_left
