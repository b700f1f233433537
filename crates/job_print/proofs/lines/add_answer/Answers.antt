use Rattle.std.proofs.Common.{arith, rules}
use Rattle.std.proofs.lemmas.Grind.{common_steps}
use Rattle.job_print.proofs.lines.add_answer.Goals as goal

pub returns-in_ok-push_str-in-NotPermitted : goal.returns-in_ok-push_str-in-NotPermitted
returns-in_ok-push_str-in-NotPermitted c = first_of (search rules steps 300000, grind (arith, common_steps) steps 300000)
