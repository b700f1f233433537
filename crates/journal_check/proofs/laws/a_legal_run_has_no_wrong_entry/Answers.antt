use Rattle.journal_check.proofs.VerdictLemmas.{no_wrong_if_legal, accounted_if_legal}
use Rattle.journal_check.proofs.laws.a_legal_run_has_no_wrong_entry.Goals as goal

pub returns-clause-no_wrong : goal.returns-clause-no_wrong
returns-clause-no_wrong c = no_wrong_if_legal

pub returns-clause-accounted : goal.returns-clause-accounted
returns-clause-accounted c = accounted_if_legal
