use Rattle.further_asked.proofs.Jobs.{text_asks_all as text_of_processes_asks}
use Rattle.further_asked.proofs.Modem.{text_asks_all as text_of_lines_asks}
use Rattle.further_asked.proofs.laws.a_text_is_as_long_as_its_session_asks.Goals as goal

pub returns : goal.returns
returns c = record { processes = text_of_processes_asks; modem_lines = text_of_lines_asks }
