use Rattle.std.proofs.Common.{◌≡◌, ◌≤◌, ◌-◌, length, replicate}
use Rattle.further_report.proofs.scripts.first_steps.Given as goal

abbrev pub invariant-loop-steps : goal.invariant-loop-steps
invariant-loop-steps l = record {
  none : l.steps.items ≡ replicate (length l.steps.items) 0;
  within : length l.steps.items ≤ l.callers;
}

abbrev pub decreases-loop-steps : goal.decreases-loop-steps
decreases-loop-steps l = l.callers - length l.steps.items
