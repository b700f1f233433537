use Rattle.journal_check.proofs.WellFormedLemmas.{within_limits_are_well_formed}
use Rattle.journal_check.proofs.laws.a_session_within_the_limits_is_well_formed.Goals as goal

pub returns : goal.returns
returns c = within_limits_are_well_formed
