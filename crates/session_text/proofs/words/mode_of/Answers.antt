use Rattle.std.proofs.Common.{rules}
use Rattle.session_text.proofs.words.mode_of.Goals as goal

pub returns : goal.returns
returns c = search rules steps 100000
