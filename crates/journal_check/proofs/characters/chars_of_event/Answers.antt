use Rattle.std.proofs.Common.{rules}
use Rattle.journal_check.proofs.characters.chars_of_event.Goals as goal

pub returns-in-Answer : goal.returns-in-Answer
returns-in-Answer c = search rules steps 100000
