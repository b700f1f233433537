use Rattle.std.proofs.Common.{rules, arith}
use Rattle.std.proofs.lemmas.Grind.{common_steps}
use Rattle.line_steps.proofs.LinePart.extend.Goals as goal

pub returns-then-ne-clause-ok : goal.returns-then-ne-clause-ok
returns-then-ne-clause-ok c = search rules steps 300000

pub returns-in_ok-extend_from_slice-in-Run-clause-ok : goal.returns-in_ok-extend_from_slice-in-Run-clause-ok
returns-in_ok-extend_from_slice-in-Run-clause-ok c = grind (arith, common_steps) steps 500000
