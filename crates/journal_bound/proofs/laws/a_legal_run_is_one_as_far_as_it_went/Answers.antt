use Rattle.journal_bound.proofs.LegalRuns.{legal_is_short}
use Rattle.journal_bound.proofs.laws.a_legal_run_is_one_as_far_as_it_went.Goals as goal

pub returns : goal.returns
returns c = legal_is_short
