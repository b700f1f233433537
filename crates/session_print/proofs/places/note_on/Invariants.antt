use Rattle.std.proofs.Common.{◌≡◌, ℕ, ◌+◌, ◌-◌, ◌/◌, length}
use Rattle.session_print.specs.Sizes.{STEPS}
use Rattle.session_print.specs.Printing.{place_on, stretches_of}
use Rattle.session_print.proofs.places.note_on.Given as goal

abbrev pub invariant-loop-alloc : goal.invariant-loop-alloc
invariant-loop-alloc l =
    (at : ℕ) → place_on (stretches_of l.row.items) at ≡ place_on (stretches_of l.initial.row.items) at

abbrev pub decreases-loop-alloc : goal.decreases-loop-alloc
decreases-loop-alloc l = l.step / STEPS + 1 - length l.row.items
