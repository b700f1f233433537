-- Lists that a loop makes, an item for each number.
use Rattle.std.proofs.Common.{◌≡◌, ◌≤◌, ℕ, ◌+◌, ◌-◌, map, List, [], ◌∷◌, ◌++◌, sym, ap, ◌∙◌, arith}
use Rattle.std.specs.List.{range_with_len}
use Rattle.std.proofs.lemmas.List.{map-append}
use Rattle.std.proofs.lemmas.List.FromFn.{map-range_with_len_more}

pub map-more : {X Y : Type 0} (f : X → Y) (g : ℕ → Y) (first count k : ℕ) (xs : List X) (x : X)
    → first + count ≡ k → map f xs ≡ map g (range_with_len first count) → f x ≡ g k
    → map f (xs ++ x ∷ []) ≡ map g (range_with_len first (count + 1))
map-more {X} {Y} f g first count k xs x place so_far last =
    map-append f xs (x ∷ [])
    ∙ ap (λ (front : List Y). front ++ f x ∷ []) so_far
    ∙ ap (λ (y : Y). map g (range_with_len first count) ++ y ∷ []) last
    ∙ sym (map-range_with_len_more g first count k place)

-- the same after a first item
pub map-more_after : {X Y : Type 0} (f : X → Y) (g : ℕ → Y) (a : Y) (k : ℕ) (xs : List X) (x : X)
    → 1 ≤ k → map f xs ≡ a ∷ map g (range_with_len 1 (k - 1)) → f x ≡ g k
    → map f (xs ++ x ∷ []) ≡ a ∷ map g (range_with_len 1 (k + 1 - 1))
map-more_after {X} {Y} f g a k xs x some so_far last =
    map-append f xs (x ∷ [])
    ∙ ap (λ (front : List Y). front ++ f x ∷ []) so_far
    ∙ ap (λ (y : Y). a ∷ (map g (range_with_len 1 (k - 1)) ++ y ∷ [])) last
    ∙ ap (λ (rest : List Y). a ∷ rest) (sym (map-range_with_len_more g 1 (k - 1) k (omega arith)))
    ∙ ap (λ (n : ℕ). a ∷ map g (range_with_len 1 n)) (omega arith)
