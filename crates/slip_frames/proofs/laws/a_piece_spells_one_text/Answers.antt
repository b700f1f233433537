use Rattle.slip_frames.proofs.Spelling.{Spells_iff}
use Rattle.slip_frames.proofs.laws.a_piece_spells_one_text.Goals as goal

pub returns : goal.returns
returns c = Spells_iff
