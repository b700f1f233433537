use Rattle.vt_text.proofs.Callers.{callers_spelled}
use Rattle.vt_text.proofs.laws.what_is_left_is_the_callers_session.Goals as goal

pub returns : goal.returns
returns c = callers_spelled
