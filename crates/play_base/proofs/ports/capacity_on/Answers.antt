use Rattle.std.proofs.Common.{rules, arith}
use Rattle.std.proofs.lemmas.Grind.{common_steps}
use Rattle.play_base.proofs.ports.capacity_on.Goals as goal

pub returns-clause-is : goal.returns-clause-is
returns-clause-is c = first_of (search rules steps 100000, grind (arith, common_steps) steps 100000)
