use Rattle.std.proofs.Common.{arith, rules}
use Rattle.std.proofs.lemmas.Grind.{common_steps}
use Rattle.job_print.proofs.lines.put_answer.Goals as goal

pub returns : goal.returns
returns c = first_of (search rules steps 300000, grind (arith, common_steps) steps 300000)
