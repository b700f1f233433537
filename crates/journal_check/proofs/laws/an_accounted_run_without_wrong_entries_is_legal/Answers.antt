use Rattle.journal_check.proofs.VerdictLemmas.{legal_if_accounted}
use Rattle.journal_check.proofs.laws.an_accounted_run_without_wrong_entries_is_legal.Goals as goal

pub returns : goal.returns
returns c = legal_if_accounted
