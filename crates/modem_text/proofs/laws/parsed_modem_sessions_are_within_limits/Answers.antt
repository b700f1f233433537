use Rattle.modem_text.proofs.Left.{session_within}
use Rattle.modem_text.proofs.laws.parsed_modem_sessions_are_within_limits.Goals as goal

pub returns : goal.returns
returns c = session_within
