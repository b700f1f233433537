-- A number of each element of a list, added up, and what a change of one element does to it.
use Rattle.std.proofs.Common.{◌≡◌, ◌≢◌, ℕ, zero, suc, ◌+◌, ◌<◌, ◌≤◌, List, []}
use Rattle.std.proofs.Common.{◌∷◌, ◌++◌, length, set, refl, sym, ap, arith}
use mathlib.Core.Option.{some, some-injective, some-ne-none}
use lib.ListN.{get_elem?}
use Rattle.port_cell.specs.Views.{total}

module _ {X : Type 0} where
  pub at_lt : (xs : List X) (i : ℕ) (x : X) → get_elem? xs i ≡ some x → i < length xs
  at_lt [] i x e = absurd (some-ne-none x (sym e))
  at_lt (y ∷ ys) zero x e = omega arith
  at_lt (y ∷ ys) (suc i) x e = let h = at_lt ys i x e in omega arith

  pub total_set : (f : X → ℕ) (xs : List X) (i : ℕ) (x y : X)
      → get_elem? xs i ≡ some x
      → total f (set xs i y) + f x ≡ total f xs + f y
  total_set f [] i x y e = absurd (some-ne-none x (sym e))
  total_set f (z ∷ zs) zero x y e = let same : f z ≡ f x = ap f (some-injective z x e) in omega arith
  total_set f (z ∷ zs) (suc i) x y e = let h = total_set f zs i x y e in omega arith

  pub total_same : (f : X → ℕ) (xs : List X) (i : ℕ) (x y : X)
      → get_elem? xs i ≡ some x
      → f y ≡ f x
      → total f (set xs i y) ≡ total f xs
  total_same f xs i x y e same = let h = total_set f xs i x y e in omega arith

  pub total_snoc : (f : X → ℕ) (xs : List X) (y : X) → total f (xs ++ y ∷ []) ≡ total f xs + f y
  total_snoc f [] y = omega arith
  total_snoc f (x ∷ xs) y = let h = total_snoc f xs y in omega arith

  pub total_append : (f : X → ℕ) (xs ys : List X) → total f (xs ++ ys) ≡ total f xs + total f ys
  total_append f [] ys = omega arith
  total_append f (x ∷ xs) ys = let h = total_append f xs ys in omega arith

  pub part_le : (f : X → ℕ) (xs : List X) (i : ℕ) (x : X) → get_elem? xs i ≡ some x → f x ≤ total f xs
  part_le f [] i x e = absurd (some-ne-none x (sym e))
  part_le f (y ∷ ys) zero x e = let same : f y ≡ f x = ap f (some-injective y x e) in omega arith
  part_le f (y ∷ ys) (suc i) x e = let h = part_le f ys i x e in omega arith

  -- what two elements have is no more than what all have
  pub two_le : (f : X → ℕ) (xs : List X) (i j : ℕ) (x y : X)
      → j ≢ i
      → get_elem? xs i ≡ some x
      → get_elem? xs j ≡ some y
      → f x + f y ≤ total f xs
  two_le f [] i j x y apart e d = absurd (some-ne-none x (sym e))
  two_le f (z ∷ zs) zero zero x y apart e d = absurd (apart refl)
  two_le f (z ∷ zs) zero (suc j) x y apart e d =
      let same : f z ≡ f x = ap f (some-injective z x e) in
      let h = part_le f zs j y d in
      omega arith
  two_le f (z ∷ zs) (suc i) zero x y apart e d =
      let same : f z ≡ f y = ap f (some-injective z y d) in
      let h = part_le f zs i x e in
      omega arith
  two_le f (z ∷ zs) (suc i) (suc j) x y apart e d =
      let h = two_le f zs i j x y (λ same. apart (ap suc same)) e d in
      omega arith

  pub total_le : (f g : X → ℕ) → ((x : X) → f x ≤ g x) → (xs : List X) → total f xs ≤ total g xs
  total_le f g le [] = omega arith
  total_le f g le (x ∷ xs) = let here = le x in let h = total_le f g le xs in omega arith

  pub total_few : (f : X → ℕ) → ((x : X) → f x ≤ 1) → (xs : List X) → total f xs ≤ length xs
  total_few f le [] = omega arith
  total_few f le (x ∷ xs) = let here = le x in let h = total_few f le xs in omega arith

  pub total_none : (f : X → ℕ) (xs : List X) → ((i : ℕ) (x : X) → get_elem? xs i ≡ some x → f x ≡ 0) → total f xs ≡ 0
  total_none f [] none = refl
  total_none f (x ∷ xs) none =
      let here = none 0 x refl in let h = total_none f xs (λ i y e. none (suc i) y e) in omega arith

  -- where the others have nothing, one element has all
  pub total_one : (f : X → ℕ) (xs : List X) (i : ℕ) (x : X)
      → get_elem? xs i ≡ some x
      → ((j : ℕ) (y : X) → j ≢ i → get_elem? xs j ≡ some y → f y ≡ 0)
      → total f xs ≡ f x
  total_one f [] i x e none = absurd (some-ne-none x (sym e))
  total_one f (z ∷ zs) zero x e none =
      let here : f z ≡ f x = ap f (some-injective z x e) in
      let h = total_none f zs (λ j y d. none (suc j) y (λ same. omega arith) d) in
      omega arith
  total_one f (z ∷ zs) (suc i) x e none =
      let here = none 0 z (λ same. omega arith) refl in
      let h = total_one f zs i x e (λ j y apart d. none (suc j) y (λ same. apart (omega arith)) d) in
      omega arith
