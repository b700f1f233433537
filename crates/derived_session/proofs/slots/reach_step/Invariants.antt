use Rattle.std.proofs.Common.{◌≡◌, ◌+◌, ◌-◌, ℕ, length}
use Rattle.derived_session.specs.Slots.{slot_in}
use Rattle.derived_session.proofs.slots.reach_step.Given as goal

abbrev pub invariant-loop-steps : goal.invariant-loop-steps
invariant-loop-steps l = (step : ℕ) → slot_in l.steps.items step ≡ slot_in l.initial.steps.items step

abbrev pub decreases-loop-steps : goal.decreases-loop-steps
decreases-loop-steps l = (l.at + 1) - length l.steps.items
