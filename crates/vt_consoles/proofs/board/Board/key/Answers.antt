use Rattle.std.proofs.Common.{arith, rules}
use Rattle.std.proofs.lemmas.Grind.{common_steps}
use Rattle.vt_consoles.proofs.board.Board.key.Goals as goal

pub returns-clause-puts : goal.returns-clause-puts
returns-clause-puts c = first_of (search rules steps 300000, grind (arith, common_steps) steps 300000)

pub returns-in_err-console-clause-ends : goal.returns-in_err-console-clause-ends
returns-in_err-console-clause-ends c = first_of (search rules steps 300000, grind (arith, common_steps) steps 300000)
