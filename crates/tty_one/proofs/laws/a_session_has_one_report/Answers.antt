use Rattle.tty_one.proofs.OneReport.{one_report, runs_tell_the_same, numbers_tell_the_same}
use Rattle.tty_one.proofs.laws.a_session_has_one_report.Goals as goal

pub returns : goal.returns
returns c = record { report = one_report; read = runs_tell_the_same; made = numbers_tell_the_same }
