use Rattle.tty_one.proofs.Roomy.{never_full_here}
use Rattle.tty_one.proofs.laws.no_journal_is_ever_full.Goals as goal

pub returns : goal.returns
returns c = never_full_here
