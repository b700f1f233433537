use Rattle.std.proofs.Common.{◌≡◌, ◌+◌, ◌-◌, ℕ, length, map}
use Rattle.derived_session.specs.Slots.{slot_at}
use Rattle.derived_session.proofs.slots.reach_caller.Given as goal

abbrev pub invariant-loop-alloc : goal.invariant-loop-alloc
invariant-loop-alloc l =
    (c step : ℕ)
    → slot_at (map (λ s. s.items) l.slots.items) c step ≡ slot_at (map (λ s. s.items) l.initial.slots.items) c step

abbrev pub decreases-loop-alloc : goal.decreases-loop-alloc
decreases-loop-alloc l = (l.caller + 1) - length l.slots.items
