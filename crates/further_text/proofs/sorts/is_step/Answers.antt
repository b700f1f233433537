use Rattle.std.proofs.Common.{rules}
use Rattle.further_text.proofs.sorts.is_step.Goals as goal

pub returns-else-is_same-8 : goal.returns-else-is_same-8
returns-else-is_same-8 c = search rules steps 300000
