use Rattle.std.proofs.Common.{arith, rules}
use Rattle.std.proofs.lemmas.Grind.{common_steps}
use Rattle.job_print.proofs.lines.add_target.Goals as goal

pub returns-in_ok-write-in-Group : goal.returns-in_ok-write-in-Group
returns-in_ok-write-in-Group c = first_of (search rules steps 300000, grind (arith, common_steps) steps 300000)
