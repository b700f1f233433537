-- A place that is found is one of the list.
use Rattle.std.proofs.Common.{◌≡◌, ℕ, ◌<◌, nat_lt, Bool, true, false, cond, List, None, Some, length}
use Rattle.std.proofs.Common.{refl, subst, ltb-true}
use Rattle.std.specs.Prelude.{position}
use Rattle.std.specs.List.{position_or_len}

some_then : (b : Bool) (n at : ℕ) → cond b (Some n) None ≡ Some at → (b ≡ true) × (n ≡ at)
some_then true n at h = (refl, cc)
some_then false n at h = cc

pub position_within : {X : Type 0} (p : X → Bool) (xs : List X) (n : ℕ) → position p xs ≡ Some n → n < length xs
position_within p xs n h =
    let place = position_or_len p xs in
    let found = some_then (nat_lt place (length xs)) place n h in
    subst (λ (m : ℕ). m < length xs) found.1 (ltb-true _ _ found.0)
