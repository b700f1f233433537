use Rattle.std.proofs.Common.{arith}
use Rattle.std.proofs.lemmas.Grind.{common_steps}
use Rattle.session_print.proofs.journals.put_beside.Goals as goal

pub returns : goal.returns
returns c = grind (arith, common_steps) steps 300000
