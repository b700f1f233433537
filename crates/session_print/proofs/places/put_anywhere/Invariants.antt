use Rattle.std.proofs.Common.{◌≡◌, ℕ, ◌+◌, ◌-◌, length, slice_index}
use Rattle.session_print.proofs.places.put_anywhere.Given as goal

abbrev pub invariant-loop-list : goal.invariant-loop-list
invariant-loop-list l = (at : ℕ) → slice_index l.list.items at ≡ slice_index l.initial.list.items at

abbrev pub decreases-loop-list : goal.decreases-loop-list
decreases-loop-list l = l.step + 1 - length l.list.items
