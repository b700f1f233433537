use Rattle.tty_one.proofs.ModemLinesReport.{one_modem_report, modem_lines_tell_the_same}
use Rattle.tty_one.proofs.laws.modem_sessions_have_one_report.Goals as goal

pub returns : goal.returns
returns c = record { report = one_modem_report; read = modem_lines_tell_the_same }
