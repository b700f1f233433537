use Rattle.vt_account.proofs.Limits.{keyed_within}
use Rattle.vt_account.proofs.laws.keyed_sessions_are_within_limits.Goals as goal

pub returns : goal.returns
returns c = keyed_within
