use Rattle.std.proofs.Common.{◌≡◌, ℕ, drop, map}
use Rattle.derived_session.specs.Slots.{no_slot, slot_after, slot_at}
use Rattle.derived_session.proofs.slots.slots_of.Given as goal

abbrev pub invariant-loop-one : goal.invariant-loop-one
invariant-loop-one l =
    (c step : ℕ)
    → slot_after (slot_at (map (λ s. s.items) l.slots.items) c step) (drop l.one-index l.passed) c step
    ≡ slot_after no_slot l.passed c step
