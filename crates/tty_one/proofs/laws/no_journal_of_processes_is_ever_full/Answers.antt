use Rattle.tty_one.proofs.ProcessesRoom.{processes_never_full}
use Rattle.tty_one.proofs.laws.no_journal_of_processes_is_ever_full.Goals as goal

pub returns : goal.returns
returns c = processes_never_full
