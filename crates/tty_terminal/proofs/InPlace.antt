-- A map that is made in place.
use Rattle.std.proofs.Common.{◌≡◌, ℕ, List, ◌++◌, ◌+◌, ◌<◌, length, take, drop, map, set, sym, ◌∙◌, ap, subst, get_or}
use Rattle.std.proofs.lemmas.List.{get_or_default}
use Rattle.std.proofs.lemmas.List.Edits.{map_over_more}

-- one more element is mapped
pub mapped_more : {X : Type 0} (f : X → X) (xs ys : List X) (i : ℕ) (d y : X) → i < length xs → length ys ≡ length xs
    → ys ≡ map f (take i xs) ++ drop i xs → y ≡ f (get_or ys i d)
    → set ys i y ≡ map f (take (i + 1) xs) ++ drop (i + 1) xs
mapped_more f xs ys i d y lt same so_far is =
    ap (λ z. set ys i z) is
    ∙ map_over_more f xs ys i (get_or ys i d) lt so_far
    (get_or_default ys i d (get_or ys i d) (subst (λ n. i < n) (sym same) lt))
