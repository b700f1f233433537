use Rattle.std.proofs.Common.{rules, arith}
use Rattle.std.proofs.lemmas.Grind.{common_steps}
use Rattle.play_base.proofs.roles.role_of.Goals as goal

pub returns-clause-first : goal.returns-clause-first
returns-clause-first c = first_of (search rules steps 100000, grind (arith, common_steps) steps 100000)
