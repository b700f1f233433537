use Rattle.further_text.proofs.Lines.{left_lines}
use Rattle.further_text.proofs.laws.what_is_left_has_the_shared_lines.Goals as goal

pub returns : goal.returns
returns c = left_lines
