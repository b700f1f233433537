use Rattle.journal_bound.proofs.Bound.{bounded, never_full}
use Rattle.journal_bound.proofs.laws.a_journal_is_bounded.Goals as goal

pub returns : goal.returns
returns c = record { by_its_session = bounded; never_full = never_full }
