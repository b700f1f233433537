use Rattle.further_asked.proofs.Jobs.{logged_within as logged_by_processes}
use Rattle.further_asked.proofs.Modem.{logged_within as logged_with_lines}
use Rattle.further_asked.proofs.laws.what_is_logged_asks_no_more.Goals as goal

pub returns : goal.returns
returns c = record { processes = logged_by_processes; modem_lines = logged_with_lines }
