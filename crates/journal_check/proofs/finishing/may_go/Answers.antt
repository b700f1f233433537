use Rattle.std.proofs.Common.{rules}
use Rattle.journal_check.proofs.finishing.may_go.Goals as goal

pub returns-in-LineEnd : goal.returns-in-LineEnd
returns-in-LineEnd c = search rules steps 100000
