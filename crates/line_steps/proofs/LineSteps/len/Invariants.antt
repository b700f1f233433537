use Rattle.std.proofs.Common.{◌≡◌, ◌^◌, ◌-◌, length, take, min}
use Rattle.line_steps.specs.Steps.{steps_in}
use Rattle.line_steps.proofs.LineSteps.len.Given as goal

abbrev pub invariant-loop-part : goal.invariant-loop-part
invariant-loop-part l = l.count ≡ min (length (steps_in (take l.part-index l.part-items))) (2 ^ 64 - 1)
