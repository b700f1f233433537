use Rattle.tty_one.proofs.ModemLinesRoom.{modem_lines_never_full}
use Rattle.tty_one.proofs.laws.no_journal_with_modem_lines_is_ever_full.Goals as goal

pub returns : goal.returns
returns c = modem_lines_never_full
