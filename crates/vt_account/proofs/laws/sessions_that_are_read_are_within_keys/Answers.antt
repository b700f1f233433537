use Rattle.vt_text.proofs.Limits.{read_within}
use Rattle.vt_account.proofs.ReadSessions.{within_keys, few_entries}
use Rattle.vt_account.proofs.laws.sessions_that_are_read_are_within_keys.Goals as goal

pub returns-clause-keys : goal.returns-clause-keys
returns-clause-keys c = λ text session h. within_keys session (read_within text session h)

pub returns-clause-entries : goal.returns-clause-entries
returns-clause-entries c = λ text session h. few_entries session (read_within text session h)
