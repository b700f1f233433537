use Rattle.vt_text.proofs.Limits.{read_within}
use Rattle.vt_text.proofs.laws.sessions_that_are_read_are_within_limits.Goals as goal

pub returns : goal.returns
returns c = read_within
