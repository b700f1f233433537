use Rattle.check_text.proofs.EntryLines.{kind_of_call}
use Rattle.check_text.proofs.laws.answers_are_read_by_their_calls.Goals as goal

pub returns : goal.returns
returns c = kind_of_call
