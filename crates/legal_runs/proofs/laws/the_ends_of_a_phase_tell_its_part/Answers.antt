use Rattle.legal_runs.proofs.MarkLemmas.{phase_part}
use Rattle.legal_runs.proofs.laws.the_ends_of_a_phase_tell_its_part.Goals as goal

pub returns : goal.returns
returns c = phase_part
