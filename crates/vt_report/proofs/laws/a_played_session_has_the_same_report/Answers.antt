use Rattle.vt_report.proofs.Played.{same_report}
use Rattle.vt_report.proofs.laws.a_played_session_has_the_same_report.Goals as goal

pub returns : goal.returns
returns c = same_report
