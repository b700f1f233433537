use Rattle.std.proofs.Common.{arith, rules}
use Rattle.std.proofs.lemmas.Grind.{common_steps}
use Rattle.vt_account.proofs.board.call_by.Goals as goal

pub returns-in-Some-clause-added : goal.returns-in-Some-clause-added
returns-in-Some-clause-added c = first_of (search rules steps 300000, grind (arith, common_steps) steps 300000)

pub returns-in-Some-clause-denied : goal.returns-in-Some-clause-denied
returns-in-Some-clause-denied c = first_of (search rules steps 300000, grind (arith, common_steps) steps 300000)
