use Rattle.vt_threads.proofs.PhaseParts.{adds_part}
use Rattle.vt_threads.proofs.laws.seats_make_their_phase.Goals as goal

pub returns : goal.returns
returns c session phase first went a b same h = adds_part session phase first went a b same h
