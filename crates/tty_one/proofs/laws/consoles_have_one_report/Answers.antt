use Rattle.tty_one.proofs.ConsolesReport.{one_consoles_report, consoles_tell_the_same}
use Rattle.tty_one.proofs.laws.consoles_have_one_report.Goals as goal

pub returns : goal.returns
returns c = record { report = one_consoles_report; read = consoles_tell_the_same }
