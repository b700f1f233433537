use Rattle.std.proofs.Common.{rules, arith}
use Rattle.std.proofs.lemmas.Grind.{common_steps}
use Rattle.vt_keyboard.proofs.operators.calls_of.Goals as goal

pub returns-in_default : goal.returns-in_default
returns-in_default c = first_of (search rules steps 100000, grind (arith, common_steps) steps 100000)
