use Rattle.std.proofs.Common.{rules}
use Rattle.check_text.proofs.journals.Journals.read_end.Goals as goal

pub returns : goal.returns
returns c = search rules steps 1000000
