use Rattle.std.proofs.Common.{arith, rules}
use Rattle.std.proofs.lemmas.Grind.{common_steps}
use Rattle.vt_account.proofs.board.activate.Goals as goal

pub returns-in-Err-NoConsole-clause-denied : goal.returns-in-Err-NoConsole-clause-denied
returns-in-Err-NoConsole-clause-denied c = first_of (search rules steps 300000, grind (arith, common_steps) steps 300000)
