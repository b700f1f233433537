use Rattle.std.proofs.Common.{refl}
use Rattle.check_text.proofs.laws.worked_texts_are_refused_at_their_lines.Goals as goal

pub returns : goal.returns
returns c = refl
