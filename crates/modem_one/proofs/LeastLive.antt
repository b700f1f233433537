-- Whether a handle is live, by the least one.
use Rattle.std.proofs.Common.{◌≡◌, ℕ, ◌+◌, Bool, true, false, not, ◌==◌, List, [], ◌∷◌, Option, Some, is_some, cond}
use Rattle.std.proofs.Common.{refl}
use Rattle.std.proofs.Common.{sym, ap, ◌∙◌, arith}
use Rattle.std.specs.Prelude.{position}
use Rattle.std.specs.List.{count_by, position_from}
use Rattle.std.proofs.lemmas.Bool.{ne_eqb}
use Rattle.std.proofs.lemmas.Iterator.Adapters.{position_from-zero}
use Rattle.std.proofs.lemmas.List.Recursion.{is_count_by}

counted : {X : Type 0} → (X → Bool) → List X → ℕ
counted p [] = 0
counted p (x ∷ xs) = cond (p x) (1 + counted p xs) (counted p xs)

at_first : (b : Bool) (i : ℕ) (o : Option ℕ) (n : ℕ)
    → is_some o ≡ not (n == 0)
    → is_some (cond b (Some i) o) ≡ not (cond b (1 + n) n == 0)
at_first true i o n e = sym (ap not (ne_eqb (1 + n) 0 (λ z. omega (arith, z))))
at_first false i o n e = e

found_from : {X : Type 0} (p : X → Bool) (i : ℕ) (xs : List X)
    → is_some (position_from p i xs) ≡ not (counted p xs == 0)
unfolding counted
found_from p i [] = refl
found_from {X} p i (x ∷ xs) = at_first (p x) i (position_from p (i + 1) xs) (counted p xs) (found_from p (i + 1) xs)

-- some are counted where one is found
pub found_counted : {X : Type 0} (p : X → Bool) (xs : List X) → is_some (position p xs) ≡ not (count_by p xs == 0)
unfolding counted
found_counted p xs =
    ap is_some (position_from-zero p xs)
    ∙ (found_from p 0 xs ∙ ap (λ (n : ℕ). not (n == 0)) (is_count_by (counted p) p refl (λ x ys. refl) xs))
