use Rattle.check_text.proofs.PrintedTexts.{printed_back}
use Rattle.check_text.proofs.laws.printed_journals_are_read_back.Goals as goal

pub returns : goal.returns
returns c = printed_back
