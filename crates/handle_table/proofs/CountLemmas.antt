-- How many handles are live, where one slot changes, and after a hangup.
use Rattle.std.proofs.Common.{◌≡◌, ◌<◌, ◌≤◌, ◌+◌, ℕ, cond, Option, Some, None, [], ◌∷◌, length, refl, arith, get_or}
use Rattle.std.proofs.Math.ListN.{set}
use Rattle.std.proofs.lemmas.List.Sums.{sum_by-set, sum_by-cons, count_by-le-length}
use Rattle.handle_table.specs.declared.HandleState.{HandleState}
use Rattle.handle_table.specs.Handles.{HandleMap, is_live, live_count, handle_after_hangup, after_hangup}

-- what one slot adds to the count
abbrev pub weight : Option HandleState → ℕ
weight slot = cond (is_live slot) 1 0

pub live_count-set : (handles : HandleMap) (h : ℕ) (slot : Option HandleState)
    → h < length handles
    → live_count (set handles h slot) + weight (get_or handles h None) ≡ live_count handles + weight slot
live_count-set handles h slot within = sum_by-set weight handles h slot None within

pub live_count-le-length : (handles : HandleMap) → live_count handles ≤ length handles
live_count-le-length handles = count_by-le-length is_live handles

weight-after_hangup : (slot : Option HandleState) → weight (handle_after_hangup slot) ≡ 0
weight-after_hangup None = refl
weight-after_hangup (Some handle) = refl

pub live_count-after_hangup : (handles : HandleMap) → live_count (after_hangup handles) ≡ 0
live_count-after_hangup [] = refl
live_count-after_hangup (slot ∷ handles) =
    omega (
      arith,
      sum_by-cons weight (handle_after_hangup slot) (after_hangup handles),
      weight-after_hangup slot,
      live_count-after_hangup handles,
    )
