use Rattle.tty_one.proofs.ProcessesReport.{one_processes_report, processes_tell_the_same}
use Rattle.tty_one.proofs.laws.processes_have_one_report.Goals as goal

pub returns : goal.returns
returns c = record { report = one_processes_report; read = processes_tell_the_same }
