-- Beginnings of lists.
use Rattle.std.proofs.Common.{◌≡◌, ℕ, zero, suc, ◌<◌, ◌≤◌, List, [], ◌∷◌, ◌++◌, length, take}
use Rattle.std.proofs.Common.{get_or, refl, ap, sym, ◌∙◌, arith, append_assoc, length-append}
use mathlib.Core.List.{IsPrefix}
use Rattle.std.proofs.lemmas.List.Prefix.{front_from_reads, front_reads}

module _ {A : Type 0} where
  pub begins_itself : (xs : List A) → IsPrefix xs xs
  begins_itself [] = ([], refl)
  begins_itself (x ∷ xs) = let r = begins_itself xs in (r.0, ap (λ ys. x ∷ ys) r.1)

  pub begins_more : (xs ys : List A) → IsPrefix xs (xs ++ ys)
  begins_more xs ys = (ys, refl)

  pub begins_through : (xs ys zs : List A) → IsPrefix xs ys → IsPrefix ys zs → IsPrefix xs zs
  begins_through xs ys zs p q = (p.0 ++ q.0, sym (append_assoc xs p.0 q.0) ∙ (ap (λ w. w ++ q.0) p.1 ∙ q.1))

  pub begins_length : (xs ys : List A) → IsPrefix xs ys → length xs ≤ length ys
  begins_length xs ys p = omega (arith, sym (ap length p.1) ∙ length-append xs p.0)

  -- of two beginnings of one list the shorter begins the longer
  pub begins_longer : (xs ys zs : List A) → IsPrefix xs zs → IsPrefix ys zs → length xs ≤ length ys → IsPrefix xs ys
  begins_longer [] ys zs p q le = (ys, refl)
  begins_longer (x ∷ xs) [] zs p q le = absurd (omega arith)
  begins_longer (x ∷ xs) (y ∷ ys) [] p q le = absurd (cc (p.1))
  begins_longer (x ∷ xs) (y ∷ ys) (z ∷ zs) p q le =
      let heads : x ≡ y = cc (p.1, q.1) in
      let rest = begins_longer xs ys zs (p.0, cc (p.1)) (q.0, cc (q.1)) (omega arith) in
      (rest.0, cc (heads, rest.1))

  -- a beginning as long as the whole is the whole
  pub begins_whole : (xs ys : List A) → IsPrefix xs ys → length ys ≤ length xs → xs ≡ ys
  begins_whole [] [] p le = refl
  begins_whole [] (y ∷ ys) p le = absurd (omega arith)
  begins_whole (x ∷ xs) [] p le = absurd (cc (p.1))
  begins_whole (x ∷ xs) (y ∷ ys) p le = let rest = begins_whole xs ys (p.0, cc (p.1)) (omega arith) in cc (p.1, rest)

  pub begins_take : (k : ℕ) (xs : List A) → IsPrefix (take k xs) xs
  begins_take zero xs = (xs, refl)
  begins_take (suc k) [] = ([], refl)
  begins_take (suc k) (x ∷ xs) = let r = begins_take k xs in (r.0, ap (λ ys. x ∷ ys) r.1)

-- the same number stands in both
pub begins_at : (xs ys : List ℕ) → IsPrefix xs ys → (i : ℕ) → i < length xs → get_or xs i 0 ≡ get_or ys i 0
begins_at xs ys p i h = sym (front_reads 0 ys xs p.0 (sym p.1) i h)

-- a list begins another where each of its numbers stands there
pub begins_from : (xs ys : List ℕ)
    → length xs ≤ length ys
    → ((i : ℕ) → i < length xs → get_or xs i 0 ≡ get_or ys i 0)
    → IsPrefix xs ys
begins_from xs ys le each = (_, sym (front_from_reads 0 ys xs le (λ i h. sym (each i h))))
