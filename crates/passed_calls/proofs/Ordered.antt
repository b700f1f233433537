-- Passings in the order of their steps: step by step they are all.
use Rattle.std.proofs.Common.{◌≡◌, ℕ, zero, suc, ◌+◌, ◌<◌, ◌≤◌, true, false, List, [], ◌∷◌}
use Rattle.std.proofs.Common.{◌++◌, ⊎_elim, refl, ap, subst, ◌∙◌, append_assoc, arith}
use Rattle.std.specs.Prelude.{◌==◌}
use Rattle.std.proofs.lemmas.Bool.{cases_eq, ne_eqb, eq-eqb}
use Rattle.passed_calls.specs.Derived.{Passing, AreInSteps, all_calls, calls_at, calls_for}

-- what was passed for a step before the first of these
none_before : (ms : List Passing) (from end step : ℕ) → step < from → AreInSteps from end ms → calls_at ms step ≡ []
none_before [] from end step lt are = refl
none_before (m ∷ ms) from end step lt are =
    let later : m.step ≡ step → ⊥ = λ e. omega (arith, lt, e, are.0) in
    let other : (m.step == step) ≡ false = ne_eqb m.step step later in
    rw other (none_before ms m.step end step (omega (arith, lt, are.0)) are.2)

-- past a step, the passings of that step are not looked at
not_later : (m : Passing) (ms : List Passing) (first n : ℕ)
    → m.step < first
    → calls_for (m ∷ ms) first n ≡ calls_for ms first n
not_later m ms first zero lt = refl
not_later m ms first (suc n) lt =
    let ne : m.step ≡ first → ⊥ = λ e. omega (arith, lt, e) in
    let other : (m.step == first) ≡ false = ne_eqb m.step first ne in
    let head : calls_at (m ∷ ms) first ≡ calls_at ms first = rw other refl in
    ap (λ calls. calls ++ calls_for (m ∷ ms) (first + 1) n) head
    ∙ ap (λ rest. calls_at ms first ++ rest) (not_later m ms (first + 1) n (omega (arith, lt)))

-- from its step on a first passing comes first
first_passing : (m : Passing) (ms : List Passing) (first n : ℕ)
    → m.step ≡ first
    → calls_for (m ∷ ms) first (suc n) ≡ m.calls ++ calls_for ms first (suc n)
first_passing m ms first n e =
    let this : (m.step == first) ≡ true = eq-eqb m.step first e in
    let head : calls_at (m ∷ ms) first ≡ m.calls ++ calls_at ms first = rw this refl in
    ap (λ calls. calls ++ calls_for (m ∷ ms) (first + 1) n) head
    ∙ ap (λ rest. (m.calls ++ calls_at ms first) ++ rest) (not_later m ms (first + 1) n (omega (arith, e)))
    ∙ append_assoc m.calls (calls_at ms first) (calls_for ms (first + 1) n)

nothing_passed : (first n : ℕ) → calls_for [] first n ≡ []
nothing_passed first zero = refl
nothing_passed first (suc n) = nothing_passed (first + 1) n

-- all passings of steps from this one on, where this is known of fewer steps
in_order_from : (n first : ℕ)
    → ((ms : List Passing) → AreInSteps (first + 1) ((first + 1) + n) ms → calls_for ms (first + 1) n ≡ all_calls ms)
    → (ms : List Passing)
    → AreInSteps first ((first + 1) + n) ms
    → calls_for ms first (suc n) ≡ all_calls ms
in_order_from n first fewer [] are = nothing_passed first (suc n)
in_order_from n first fewer (m ∷ ms) are =
    ⊎_elim
    (λ e.
    let rest : AreInSteps first ((first + 1) + n) ms =
    let P : ℕ → Type 0 = λ k. AreInSteps k ((first + 1) + n) ms in subst P e are.2 in
    first_passing m ms first n e ∙ ap (λ calls. m.calls ++ calls) (in_order_from n first fewer ms rest))
    (λ ne.
    let later : first + 1 ≤ m.step = omega (arith, ne, are.0) in
    let none : calls_at (m ∷ ms) first ≡ [] =
    none_before (m ∷ ms) (first + 1) ((first + 1) + n) first (omega arith) (later, are.1, are.2) in
    ap (λ calls. calls ++ calls_for (m ∷ ms) (first + 1) n) none ∙ fewer (m ∷ ms) (later, are.1, are.2))
    (cases_eq m.step first)

all_from : (n first : ℕ) (ms : List Passing) → AreInSteps first (first + n) ms → calls_for ms first n ≡ all_calls ms
all_from zero first [] are = refl
all_from zero first (m ∷ ms) are = absurd (omega (arith, are.0, are.1))
all_from (suc n) first ms are =
    let along : first + suc n ≡ (first + 1) + n = omega arith in
    let moved : AreInSteps first ((first + 1) + n) ms =
    let P : ℕ → Type 0 = λ end. AreInSteps first end ms in subst P along are in
    in_order_from n first (all_from n (first + 1)) ms moved

pub passed_in_order : (passings : List Passing) (count : ℕ)
    → AreInSteps 0 count passings
    → calls_for passings 0 count ≡ all_calls passings
passed_in_order passings count are =
    let along : count ≡ 0 + count = omega arith in
    let moved : AreInSteps 0 (0 + count) passings =
    let P : ℕ → Type 0 = λ end. AreInSteps 0 end passings in subst P along are in
    all_from count 0 passings moved
