-- Tests of numbers and of truth values, each way.
use Rattle.std.proofs.Common.{◌≡◌, ◌≢◌, ◌⊎◌, inl, inr, ℕ, zero, suc, ◌<◌, ◌≤◌, ◌==◌, ◌||◌, nat_lt}
use Rattle.std.proofs.Common.{Bool, true, false, refl, arith, ltb-true, ltb-false, eq-eqb}
use Rattle.std.proofs.lemmas.Bool.{eqb-true}

pub or_parts : (a b : Bool) → (a || b) ≡ false → (a ≡ false) × (b ≡ false)
or_parts true b h = cc
or_parts false b h = (refl, h)

pub inside : (n i : ℕ) → (i < n) ⊎ (n ≤ i)
inside n i = elim (nat_lt i n) as (λ b. nat_lt i n ≡ b → (i < n) ⊎ (n ≤ i)) [
  | true ↦ λ e. inl (ltb-true i n e)
  | false ↦ λ e. inr (ltb-false i n e)
] refl

pub is_false : (b : Bool) → (b ≡ true → ⊥) → b ≡ false
is_false true never = absurd (never refl)
is_false false never = refl

pub same_or : (a b : ℕ) (t : Bool) → (a == b) ≡ t → (a ≡ b) ⊎ (a ≢ b)
same_or a b true e = inl (eqb-true a b e)
same_or a b false e = inr (λ same. let yes = eq-eqb a b same in cc)

lt_by : (a b : ℕ) (t : Bool) → nat_lt a b ≡ t → a < b → t ≡ true
lt_by a b true e h = refl
lt_by a b false e h = absurd (let ge = ltb-false a b e in omega (arith, ge, h))

pub lt-ltb : (a b : ℕ) → a < b → nat_lt a b ≡ true
lt-ltb a b h = lt_by a b (nat_lt a b) refl h

pub above_zero : (n : ℕ) → (n == 0) ≡ false → 0 < n
above_zero zero h = cc
above_zero (suc n) h = omega arith

pub next_above : (n : ℕ) → (suc n == 0) ≡ false
next_above n = by (suc n == 0) refl
  where
    by : (b : Bool) → (suc n == 0) ≡ b → b ≡ false
    by true e = absurd (let none = eqb-true (suc n) 0 e in omega (arith, none))
    by false e = refl

ge_by : (a b : ℕ) (t : Bool) → nat_lt a b ≡ t → b ≤ a → t ≡ false
ge_by a b true e h = absurd (let lt = ltb-true a b e in omega (arith, h, lt))
ge_by a b false e h = refl

pub ge-ltb : (a b : ℕ) → b ≤ a → nat_lt a b ≡ false
ge-ltb a b h = ge_by a b (nat_lt a b) refl h
