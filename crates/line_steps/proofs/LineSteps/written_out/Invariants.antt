use Rattle.std.proofs.Common.{◌≡◌, take}
use Rattle.line_steps.specs.Steps.{steps_in}
use Rattle.line_steps.proofs.LineSteps.written_out.Given as goal

abbrev pub invariant-loop-part : goal.invariant-loop-part
invariant-loop-part l = l.steps.items ≡ steps_in (take l.part-index l.part-items)
