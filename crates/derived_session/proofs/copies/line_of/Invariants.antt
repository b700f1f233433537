use Rattle.std.proofs.Common.{◌≡◌, ◌++◌, drop}
use Rattle.line_steps.specs.Steps.{steps_in}
use Rattle.derived_session.proofs.copies.line_of.Given as goal

abbrev pub invariant-loop-part : goal.invariant-loop-part
invariant-loop-part l = l.copy.items ++ steps_in (drop l.part-index l.part-items) ≡ steps_in l.part-items
