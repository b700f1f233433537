use Rattle.tty_one.proofs.ConsolesRoom.{console_never_full}
use Rattle.tty_one.proofs.laws.no_journal_of_a_console_is_ever_full.Goals as goal

pub returns : goal.returns
returns c = console_never_full
