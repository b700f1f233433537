-- Sums over the first numbers.
use Rattle.std.proofs.Common.{◌≡◌, inl, inr, ℕ, zero, suc, ◌+◌, ◌*◌, ◌<◌, ◌≤◌, List}
use Rattle.std.proofs.Common.{[], ◌∷◌, Option, None, Some, refl, ap, subst, arith}
use Rattle.std.specs.Prelude.{slice_get, slice_index_or, sum_by}
use Rattle.std.proofs.lemmas.Bool.{cases_lt}
use Rattle.std.proofs.lemmas.List.Sums.{sum_by-cons}

abbrev pub total : (ℕ → ℕ) → ℕ → ℕ
total f zero = 0
total f (suc n) = total f n + f n

pub total_next : (f : ℕ → ℕ) (n : ℕ) → total f (n + 1) ≡ total f n + f n
total_next f n = let next : n + 1 ≡ suc n = omega arith in ap (λ (k : ℕ). total f k) next

pub total_least : (f g : ℕ → ℕ) (n : ℕ) → ((c : ℕ) → f c ≤ g c) → total f n ≤ total g n
total_least f g zero h = omega arith
total_least f g (suc n) h = omega (arith, total_least f g n h, h n)

-- where one of the numbers pays for what is added to both sums
pub total_paid : (f g : ℕ → ℕ) (n c a b : ℕ)
    → c < n
    → ((i : ℕ) → f i ≤ g i)
    → f c + a ≤ g c + b
    → total f n + a ≤ total g n + b
total_paid f g zero c a b below h more = absurd (omega (arith, below))
total_paid f g (suc n) c a b below h more =
    elim (cases_lt c n) [
      | inl lt ↦ omega (arith, total_paid f g n c a b lt h more, h n)
      | inr ge ↦
          let last : c ≡ n = omega (arith, ge, below) in
          let at_last : f n + a ≤ g n + b = subst (λ (i : ℕ). f i + a ≤ g i + b) last more in
          omega (arith, total_least f g n h, at_last)
    ]

-- where one of the numbers is larger by one
pub total_more : (f g : ℕ → ℕ) (n c : ℕ) → c < n → ((i : ℕ) → f i ≤ g i) → f c + 1 ≤ g c → total f n + 1 ≤ total g n
total_more f g n c below h more = omega (arith, total_paid f g n c 1 0 below h (omega (arith, more)))

pub total_shift : (f : ℕ → ℕ) (n : ℕ) → total f (suc n) ≡ f 0 + total (λ i. f (suc i)) n
total_shift f zero = omega arith
total_shift f (suc n) =
    let before : total f (suc n) ≡ f 0 + total (λ i. f (suc i)) n = total_shift f n in
    omega (arith, before)

pub total_plus : (f g : ℕ → ℕ) (n : ℕ) → total (λ c. f c + g c) n ≡ total f n + total g n
total_plus f g zero = refl
total_plus f g (suc n) = omega (arith, total_plus f g n)

pub total_sixteen : (f : ℕ → ℕ) (n : ℕ) → total (λ c. 16 * f c) n ≡ 16 * total f n
total_sixteen f zero = refl
total_sixteen f (suc n) = omega (arith, total_sixteen f n)

pub total_none : (f : ℕ → ℕ) (n : ℕ) → ((c : ℕ) → f c ≡ 0) → total f n ≡ 0
total_none f zero h = refl
total_none f (suc n) h = omega (arith, total_none f n h, h n)

-- over the places of a list, and past its end
pub total_listed : {X : Type 0} (w : X → ℕ) (d : X) (xs : List X) (n : ℕ)
    → w d ≡ 0
    → total (λ i. w (slice_index_or xs i d)) n ≤ sum_by w xs
total_listed w d [] n e = omega (arith, total_none (λ i. w (slice_index_or [] i d)) n (λ i. e))
total_listed w d (x ∷ xs) zero e = omega arith
total_listed w d (x ∷ xs) (suc n) e =
    let first : total (λ i. w (slice_index_or (x ∷ xs) i d)) (suc n) ≡ w x + total (λ i. w (slice_index_or xs i d)) n =
    total_shift (λ i. w (slice_index_or (x ∷ xs) i d)) n in
    omega (arith, first, total_listed w d xs n e, sum_by-cons w x xs)

pub total_found : {X : Type 0} (w : Option X → ℕ) (xs : List X) (n : ℕ)
    → w None ≡ 0
    → total (λ i. w (slice_get xs i)) n ≤ sum_by (λ x. w (Some x)) xs
total_found w [] n e = omega (arith, total_none (λ i. w (slice_get [] i)) n (λ i. e))
total_found w (x ∷ xs) zero e = omega arith
total_found w (x ∷ xs) (suc n) e =
    let first : total (λ i. w (slice_get (x ∷ xs) i)) (suc n) ≡ w (Some x) + total (λ i. w (slice_get xs i)) n =
    total_shift (λ i. w (slice_get (x ∷ xs) i)) n in
    omega (arith, first, total_found w xs n e, sum_by-cons (λ y. w (Some y)) x xs)
