-- Logs that are the same on each port tell the same.
use Rattle.std.proofs.Common.{◌≡◌, ◌≤◌, ◌<◌, ℕ, zero, suc, ◌+◌, ◌==◌, Bool, true, false, List, [], ◌∷◌, ◌++◌, Some}
use Rattle.std.proofs.Common.{length, if◌then◌else◌, refl, sym, ◌∙◌, ap, arith}
use Rattle.std.specs.Prelude.{flat_map, slice_get}
use Rattle.std.specs.List.{range_with_len}
use Rattle.passed_calls.specs.declared.logs.Logged.{Logged}
use Rattle.passed_calls.specs.Logs.{logged_on}

-- what is told of the events of a port is told of its log
by_port : {X E : Type 0} (f : E → List X) (p : ℕ) (log : List (Logged E))
    → flat_map (λ l. if l.port == p then f l.event else []) log ≡ flat_map (λ l. f l.event) (logged_on p log)
by_port f p [] = refl
by_port f p (l ∷ log) = by_test (l.port == p) (by_port f p log)
  where
    by_test : (b : Bool)
        → flat_map (λ l. if l.port == p then f l.event else []) log ≡ flat_map (λ l. f l.event) (logged_on p log)
        → (if b then f l.event else []) ++ flat_map (λ l. if l.port == p then f l.event else []) log
        ≡ flat_map (λ l. f l.event) (if b then l ∷ logged_on p log else logged_on p log)
    by_test true rest = ap (λ xs. f l.event ++ xs) rest
    by_test false rest = rest

pub told_same : {X E : Type 0} (f : E → List X) (p : ℕ) (log other : List (Logged E))
    → logged_on p log ≡ logged_on p other
    → flat_map (λ l. if l.port == p then f l.event else []) log
    ≡ flat_map (λ l. if l.port == p then f l.event else []) other
told_same {X} {E} f p log other same =
    by_port f p log ∙ (ap (λ (ls : List (Logged E)). flat_map (λ l. f l.event) ls) same ∙ sym (by_port f p other))

-- on each port of so many
pub each_same : (f g : ℕ → List ℕ) (first n : ℕ)
    → ((p : ℕ) → first ≤ p → p < first + n → f p ≡ g p)
    → flat_map f (range_with_len first n) ≡ flat_map g (range_with_len first n)
each_same f g first zero same = refl
each_same f g first (suc n) same =
    let here = same first (omega arith) (omega arith) in
    let rest = each_same f g (first + 1) n (λ p low high. same p (omega (arith, low)) (omega (arith, high))) in
    λ i. here i ++ rest i

-- there is one at each place below their number
pub some_at : {X : Type 0} (xs : List X) (p : ℕ) → p < length xs → (x : X) × (slice_get xs p ≡ Some x)
some_at [] p lt = absurd (omega (arith, lt))
some_at (x ∷ xs) zero lt = (x, refl)
some_at (x ∷ xs) (suc p) lt = some_at xs p (omega (arith, lt))
