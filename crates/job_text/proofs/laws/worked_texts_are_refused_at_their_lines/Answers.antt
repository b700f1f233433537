use Rattle.std.proofs.Common.{refl}
use Rattle.tty_modes.specs.Reading.{word_of}
use Rattle.job_text.proofs.laws.worked_texts_are_refused_at_their_lines.Goals as goal

pub returns : goal.returns
unfolding word_of
returns c = refl
