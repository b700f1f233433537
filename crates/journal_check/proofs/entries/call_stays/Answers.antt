use Rattle.std.proofs.Common.{rules}
use Rattle.journal_check.proofs.entries.call_stays.Goals as goal

pub returns-else-is_some : goal.returns-else-is_some
returns-else-is_some c = search rules steps 1000000
