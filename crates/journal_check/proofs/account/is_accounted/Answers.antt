use Rattle.std.proofs.Common.{rules}
use Rattle.journal_check.proofs.account.is_accounted.Goals as goal

pub returns-then-not-are_shown : goal.returns-then-not-are_shown
returns-then-not-are_shown c = search rules steps 1000000
