use Rattle.journal_check.proofs.VerdictLemmas.{one_verdict}
use Rattle.journal_check.proofs.laws.at_most_one_verdict_fits.Goals as goal

pub returns : goal.returns
returns c = one_verdict
