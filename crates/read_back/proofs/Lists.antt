-- Lists of which each item is something.
use Rattle.std.proofs.Common.{◌≡◌, ℕ, zero, suc, ◌<◌, List, [], ◌∷◌, ◌++◌, Some}
use Rattle.std.proofs.Common.{map, take, drop, get_or, slice_get, subst, arith}
use Rattle.std.specs.Prelude.{flat_map, set}
use Rattle.std.specs.List.{AllByRecursion}
use Rattle.hex.specs.Hex.{IsBytes}

module _ {A : Type 0} (P : A → Type 0) where
  pub each_of_both : (xs ys : List A) → AllByRecursion P xs → AllByRecursion P ys → AllByRecursion P (xs ++ ys)
  each_of_both [] ys h k = k
  each_of_both (x ∷ xs) ys h k = (h.0, each_of_both xs ys h.1 k)

  pub each_first : (xs ys : List A) → AllByRecursion P (xs ++ ys) → AllByRecursion P xs
  each_first [] ys h = tt
  each_first (x ∷ xs) ys h = (h.0, each_first xs ys h.1)

  pub each_last : (xs ys : List A) → AllByRecursion P (xs ++ ys) → AllByRecursion P ys
  each_last [] ys h = h
  each_last (x ∷ xs) ys h = each_last xs ys h.1

  pub each_taken : (n : ℕ) (xs : List A) → AllByRecursion P xs → AllByRecursion P (take n xs)
  each_taken zero xs h = tt
  each_taken (suc n) [] h = tt
  each_taken (suc n) (x ∷ xs) h = (h.0, each_taken n xs h.1)

  pub each_left : (n : ℕ) (xs : List A) → AllByRecursion P xs → AllByRecursion P (drop n xs)
  each_left zero xs h = h
  each_left (suc n) [] h = tt
  each_left (suc n) (x ∷ xs) h = each_left n xs h.1

  pub each_set : (xs : List A) (i : ℕ) (x : A) → AllByRecursion P xs → P x → AllByRecursion P (set xs i x)
  each_set [] i x h k = tt
  each_set (y ∷ xs) zero x h k = (k, h.1)
  each_set (y ∷ xs) (suc i) x h k = (h.0, each_set xs i x h.1 k)

  pub each_found : (xs : List A) (i : ℕ) (x : A) → slice_get xs i ≡ Some x → AllByRecursion P xs → P x
  each_found [] i x e h = cc
  each_found (y ∷ xs) zero x e h = let same : y ≡ x = cc in subst P same h.0
  each_found (y ∷ xs) (suc i) x e h = each_found xs i x e h.1

  -- also past the list, where the default is one
  pub each_at : (xs : List A) (i : ℕ) (d : A) → AllByRecursion P xs → P d → P (get_or xs i d)
  each_at [] i d h k = k
  each_at (x ∷ xs) zero d h k = h.0
  each_at (x ∷ xs) (suc i) d h k = each_at xs i d h.1 k

  pub each_flat : {B : Type 0} (f : B → List A) (xs : List B)
      → AllByRecursion (λ b. AllByRecursion P (f b)) xs
      → AllByRecursion P (flat_map f xs)
  each_flat f [] h = tt
  each_flat f (x ∷ xs) h = each_of_both (f x) _ h.0 (each_flat f xs h.1)

  pub each_mapped : {B : Type 0} (f : B → A) (xs : List B)
      → AllByRecursion (λ b. P (f b)) xs
      → AllByRecursion P (map f xs)
  each_mapped f [] h = tt
  each_mapped f (x ∷ xs) h = (h.0, each_mapped f xs h.1)

  pub each_any : ((x : A) → P x) → (xs : List A) → AllByRecursion P xs
  each_any f [] = tt
  each_any f (x ∷ xs) = (f x, each_any f xs)

  pub each_weaker : (Q : A → Type 0) → ((x : A) → P x → Q x) → (xs : List A) → AllByRecursion P xs → AllByRecursion Q xs
  each_weaker Q f [] h = tt
  each_weaker Q f (x ∷ xs) h = (f x h.0, each_weaker Q f xs h.1)

abbrev pub AllBytes : List ℕ → Type 0
AllBytes bytes = AllByRecursion (λ b. b < 256) bytes

pub are_bytes : (bytes : List ℕ) → AllBytes bytes → IsBytes bytes
are_bytes bytes h i = each_at (λ b. b < 256) bytes i 0 h (omega arith)
