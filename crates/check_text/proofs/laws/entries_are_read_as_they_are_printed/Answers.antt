use Rattle.check_text.proofs.EntryLines.{entry_line_read}
use Rattle.check_text.proofs.laws.entries_are_read_as_they_are_printed.Goals as goal

pub returns : goal.returns
returns c = entry_line_read
