-- Lists that are made one after the other.
use Rattle.std.proofs.Common.{◌≡◌, ◌<◌, inl, inr, ℕ, zero, suc, ◌+◌}
use Rattle.std.proofs.Common.{List, [], ◌∷◌, ◌++◌, length, map, Vec, Global}
use Rattle.std.proofs.Common.{refl, sym, ap, ◌∙◌, subst, arith, length-append}
use Rattle.std.specs.Prelude.{slice_index_or}
use Rattle.std.proofs.lemmas.Bool.{cases_eq}
use Rattle.std.proofs.lemmas.List.{map-append}

list_front : {X : Type 0} (xs : List X) (x d : X) (i : ℕ)
    → i < length xs
    → slice_index_or (xs ++ x ∷ []) i d ≡ slice_index_or xs i d
list_front [] x d i lt = absurd (omega (arith, lt))
list_front (y ∷ ys) x d zero lt = refl
list_front (y ∷ ys) x d (suc i) lt = list_front ys x d i (omega (arith, lt))

list_last : {X : Type 0} (xs : List X) (x d : X) → slice_index_or (xs ++ x ∷ []) (length xs) d ≡ x
list_last [] x d = refl
list_last (y ∷ ys) x d = list_last ys x d

-- so many lists, of which each is as it is to be
pub record AreListed {X : Type 0} (Is : ℕ → List X → Type 0) (count : ℕ) (lists : List (List X)) : Type 0 where
  pub many : length lists ≡ count
  pub each : (k : ℕ) → k < count → Is k (slice_index_or lists k [])

pub one_more_listed : {X : Type 0} (Is : ℕ → List X → Type 0) (k : ℕ) (vs new : List (Vec X Global)) (v : Vec X Global)
    → new ≡ vs ++ v ∷ []
    → Is k v.items
    → AreListed Is k (map (λ w. w.items) vs)
    → AreListed Is (k + 1) (map (λ w. w.items) new)
one_more_listed {X} Is k vs new v more is h =
    let lists = map (λ (w : Vec X Global). w.items) vs in
    subst (λ (xs : List (List X)). AreListed Is (k + 1) xs)
    (sym (ap (map (λ (w : Vec X Global). w.items)) more ∙ map-append (λ (w : Vec X Global). w.items) vs (v ∷ [])))
    (record {
      many = length-append lists (v.items ∷ []) ∙ ap (λ (m : ℕ). m + 1) h.many;
      each = λ j below. elim (cases_eq j k) [
        | inl same ↦
            subst (λ (xs : List X). Is j xs)
            (sym (ap (λ (m : ℕ). slice_index_or (lists ++ v.items ∷ []) m []) (same ∙ sym h.many)
            ∙ list_last lists v.items []))
            (subst (λ (m : ℕ). Is m v.items) (sym same) is)
        | inr other ↦
            (let front : j < k = omega (arith, below, other) in
            subst (λ (xs : List X). Is j xs) (sym (list_front lists v.items [] j (omega (arith, front, h.many))))
            (h.each j front))
      ];
    })
