use Rattle.std.proofs.Common.{rules, arith}
use Rattle.std.proofs.lemmas.Grind.{common_steps}
use Rattle.calls_left.proofs.remaining.Cursor.is_before.Goals as goal

pub returns-then-last-place : goal.returns-then-last-place
returns-then-last-place c = first_of (search rules steps 100000, grind (arith, common_steps) steps 300000)
