use Rattle.std.proofs.Common.{refl}
use Rattle.hex.specs.Hex.{decode_pairs}
use Rattle.tty_modes.specs.Reading.{word_of}
use Rattle.job_text.proofs.laws.a_worked_text_is_read.Goals as goal

pub returns : goal.returns
unfolding decode_pairs word_of
returns c = refl
