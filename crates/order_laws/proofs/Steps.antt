-- Passings of one caller, by their steps.
use Rattle.std.proofs.Common.{◌≡◌, ◌≤◌, ◌<◌, inl, inr, ℕ, ◌+◌, Bool, true, false, ◌==◌, List, [], ◌∷◌, ◌++◌}
use Rattle.std.proofs.Common.{length, if◌then◌else◌, filter, refl, sym, ap, ◌∙◌, subst, arith, append-nil}
use Rattle.std.specs.Prelude.{All, slice_index_or, slice_set}
use Rattle.std.proofs.lemmas.Bool.{cases_eq, false≢true, ne_eqb, eq-eqb}
use Rattle.std.proofs.lemmas.List.{get_or-set_same, get_or-set_other}
use Rattle.std.proofs.lemmas.List.Elements.{All-head, All-tail, All-weaker, filter-append}
use Rattle.passed_calls.specs.Derived.{Passing, AreInSteps, by_caller, calls_at}

by_same : (c : ℕ) (m : Passing) → m.caller ≡ c → by_caller c (m ∷ []) ≡ m ∷ []
by_same c m same = ap (λ (b : Bool). if b then m ∷ [] else []) (eq-eqb m.caller c same)

by_none : (c : ℕ) (m : Passing) → (m.caller ≡ c → ⊥) → by_caller c (m ∷ []) ≡ []
by_none c m other = ap (λ (b : Bool). if b then m ∷ [] else []) (ne_eqb m.caller c other)

-- one passing more, of its caller and of another
pub own_more : (ms : List Passing) (c : ℕ) (m : Passing)
    → m.caller ≡ c
    → by_caller c (ms ++ m ∷ []) ≡ by_caller c ms ++ m ∷ []
own_more ms c m same =
    filter-append (λ (x : Passing). x.caller == c) ms (m ∷ [])
    ∙ ap (λ (xs : List Passing). by_caller c ms ++ xs) (by_same c m same)

pub other_more : (ms : List Passing) (c : ℕ) (m : Passing)
    → (m.caller ≡ c → ⊥)
    → by_caller c (ms ++ m ∷ []) ≡ by_caller c ms
other_more ms c m other =
    filter-append (λ (x : Passing). x.caller == c) ms (m ∷ [])
    ∙ (ap (λ (xs : List Passing). by_caller c ms ++ xs) (by_none c m other) ∙ append-nil (by_caller c ms))

-- ---- a passing, or none

abbrev pub tail : Bool → Passing → List Passing
tail b m = if b then m ∷ [] else []

pub tail_same : (b : Bool) (m n : Passing) → (b ≡ true → m ≡ n) → tail b m ≡ tail b n
tail_same true m n same = ap (λ (x : Passing). x ∷ []) (same refl)
tail_same false m n same = refl

pub tail_none : (b : Bool) (m : Passing) → b ≡ false → tail b m ≡ []
tail_none true m e = absurd (false≢true (sym e))
tail_none false m e = refl

pub tail_one : (b : Bool) (m : Passing) → b ≡ true → tail b m ≡ m ∷ []
tail_one true m e = refl
tail_one false m e = absurd (false≢true e)

-- ---- the next steps

pub step_own : (next : List ℕ) (c n : ℕ) → c < length next → slice_index_or (slice_set next c n) c 0 ≡ n
step_own next c n lt = get_or-set_same next c n 0 lt

pub step_other : (next : List ℕ) (c x n : ℕ)
    → (x ≡ c → ⊥)
    → slice_index_or (slice_set next c n) x 0 ≡ slice_index_or next x 0
step_other next c x n other = get_or-set_other next c x n 0 other

-- the next steps of all rise
pub step_rises : (next : List ℕ) (c x : ℕ)
    → c < length next
    → slice_index_or next x 0 ≤ slice_index_or (slice_set next c (slice_index_or next c 0 + 1)) x 0
step_rises next c x lt = elim (cases_eq x c) [
  | inl same ↦ subst
      (λ (y : ℕ). slice_index_or next y 0 ≤ slice_index_or (slice_set next c (slice_index_or next c 0 + 1)) y 0)
      (sym same)
      (omega (arith, step_own next c (slice_index_or next c 0 + 1) lt))
  | inr other ↦ omega (arith, step_other next c x (slice_index_or next c 0 + 1) other)
]

pub before_more : (ms : List Passing) (n k : ℕ) → n ≤ k → All (λ m. m.step < n) ms → All (λ m. m.step < k) ms
before_more ms n k le h =
    All-weaker (λ (m : Passing). m.step < n) (λ (m : Passing). m.step < k) (λ m lt. omega (arith, le, lt)) ms h

-- ---- passings of earlier steps

pub none_at : (ms : List Passing) (n : ℕ) → All (λ m. m.step < n) ms → calls_at ms n ≡ []
none_at [] n h = refl
none_at (m ∷ ms) n h =
    let lt : m.step < n = All-head (λ (x : Passing). x.step < n) m ms h in
    let ne : m.step ≡ n → ⊥ = λ e. omega (arith, lt, e) in
    ap (λ (b : Bool). (if b then m.calls else []) ++ calls_at ms n) (ne_eqb m.step n ne)
    ∙ none_at ms n (All-tail (λ (x : Passing). x.step < n) m ms h)

pub in_steps_below : (from end n : ℕ) (ms : List Passing)
    → AreInSteps from end ms
    → All (λ m. m.step < n) ms
    → AreInSteps from n ms
in_steps_below from end n [] h all = tt
in_steps_below from end n (m ∷ ms) h all = (
  h.0,
  All-head (λ (x : Passing). x.step < n) m ms all,
  in_steps_below m.step end n ms h.2 (All-tail (λ (x : Passing). x.step < n) m ms all),
)
