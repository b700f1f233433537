-- One passing more: what stays, and what there is more of.
use Rattle.std.proofs.Common.{◌≡◌, ◌≤◌, ◌<◌, ℕ, zero, suc, ◌+◌, Bool, List, [], ◌∷◌, ◌++◌, Option, None, Some}
use Rattle.std.proofs.Common.{length, take, if◌then◌else◌, refl, ap, ◌∙◌, arith, length-append, append-nil}
use Rattle.std.specs.Prelude.{◌==◌, flat_map, filter, sum_by}
use Rattle.std.specs.Str.{bytes_eq}
use Rattle.std.proofs.lemmas.Bool.{ne_eqb}
use Rattle.std.proofs.lemmas.Grind.{flat_map-append}
use Rattle.std.proofs.lemmas.List.Elements.{filter-append}
use Rattle.std.proofs.lemmas.List.Sums.{sum_by-append}
use Rattle.tty_calls.specs.Plain.{PlainCall}
use Rattle.passed_calls.specs.Blocks.{Block, blocks_on, steps_under}
use Rattle.passed_calls.specs.Derived.{Passing, BlockPhase, AreInSteps, blocks_of, all_calls, calls_at, calls_for}
use Rattle.order_laws.specs.Passed.{steps_named}

-- ---- the calls of steps

abbrev pub own_calls : ℕ → Passing → List PlainCall
own_calls step m = if m.step == step then m.calls else []

pub at_more : (ms : List Passing) (m : Passing) (step : ℕ)
    → calls_at (ms ++ m ∷ []) step ≡ calls_at ms step ++ own_calls step m
at_more ms m step =
    flat_map-append (own_calls step) ms (m ∷ [])
    ∙ ap (λ (cs : List PlainCall). calls_at ms step ++ cs) (append-nil (own_calls step m))

at_other : (ms : List Passing) (m : Passing) (step : ℕ)
    → step < m.step
    → calls_at (ms ++ m ∷ []) step ≡ calls_at ms step
at_other ms m step lt =
    let ne : m.step ≡ step → ⊥ = λ e. omega (arith, lt, e) in
    at_more ms m step
    ∙ (ap (λ (b : Bool). calls_at ms step ++ (if b then m.calls else [])) (ne_eqb m.step step ne)
    ∙ append-nil (calls_at ms step))

-- before its step nothing changes
pub early_same : (ms : List Passing) (m : Passing) (n first : ℕ)
    → first + n ≤ m.step
    → calls_for (ms ++ m ∷ []) first n ≡ calls_for ms first n
early_same ms m zero first le = refl
early_same ms m (suc n) first le =
    let here = at_other ms m first (omega (arith, le)) in
    let rest = early_same ms m n (first + 1) (omega (arith, le)) in
    λ i. here i ++ rest i

at_rises : (ms : List Passing) (m : Passing) (step : ℕ)
    → length (calls_at ms step) ≤ length (calls_at (ms ++ m ∷ []) step)
at_rises ms m step =
    omega (
      arith,
      ap (λ (cs : List PlainCall). length cs) (at_more ms m step),
      length-append (calls_at ms step) (own_calls step m),
    )

pub for_rises : (ms : List Passing) (m : Passing) (n first : ℕ)
    → length (calls_for ms first n) ≤ length (calls_for (ms ++ m ∷ []) first n)
for_rises ms m zero first = omega arith
for_rises ms m (suc n) first =
    omega (
      arith,
      at_rises ms m first,
      for_rises ms m n (first + 1),
      length-append (calls_at ms first) (calls_for ms (first + 1) n),
      length-append (calls_at (ms ++ m ∷ []) first) (calls_for (ms ++ m ∷ []) (first + 1) n),
    )

pub all_more : (ms : List Passing) (m : Passing) → all_calls (ms ++ m ∷ []) ≡ all_calls ms ++ m.calls
all_more ms m =
    flat_map-append (λ (x : Passing). x.calls) ms (m ∷ [])
    ∙ ap (λ (cs : List PlainCall). all_calls ms ++ cs) (append-nil m.calls)

-- ---- in the order of their steps

pub in_more_steps : (from end later : ℕ) (ms : List Passing)
    → end ≤ later
    → AreInSteps from end ms
    → AreInSteps from later ms
in_more_steps from end later [] le h = tt
in_more_steps from end later (m ∷ ms) le h = (h.0, omega (arith, le, h.1), in_more_steps m.step end later ms le h.2)

pub in_steps_more : (from end later : ℕ) (ms : List Passing) (m : Passing)
    → from ≤ m.step
    → end ≤ m.step + 1
    → m.step < later
    → AreInSteps from end ms
    → AreInSteps from later (ms ++ m ∷ [])
in_steps_more from end later [] m low le lt h = (low, lt, tt)
in_steps_more from end later (x ∷ ms) m low le lt h =
    (h.0, omega (arith, le, lt, h.1), in_steps_more x.step end later ms m (omega (arith, le, h.1)) le lt h.2)

-- ---- the steps of the first phases

under_append : (name : List ℕ) (p : ℕ) (xs ys : List Block)
    → steps_under name (blocks_on p (xs ++ ys)) ≡ steps_under name (blocks_on p xs) + steps_under name (blocks_on p ys)
under_append name p xs ys =
    ap (steps_under name) (filter-append (λ b. b.port == p) xs ys)
    ∙ sum_by-append (λ b. if bytes_eq b.name name then b.steps else 0) (blocks_on p xs) (blocks_on p ys)

named_append : (p : ℕ) (xs ys : List Block) (o : Option (List ℕ))
    → steps_named p (xs ++ ys) o ≡ steps_named p xs o + steps_named p ys o
named_append p xs ys None = refl
named_append p xs ys (Some name) = under_append name p xs ys

pub first_within : (p k : ℕ) (phases : List BlockPhase) (o : Option (List ℕ))
    → steps_named p (blocks_of (take k phases)) o ≤ steps_named p (blocks_of phases) o
first_within p zero phases None = omega arith
first_within p zero phases (Some name) = omega arith
first_within p (suc k) [] o = omega arith
first_within p (suc k) (x ∷ xs) o =
    omega (
      arith,
      named_append p x.blocks (blocks_of (take k xs)) o,
      named_append p x.blocks (blocks_of xs) o,
      first_within p k xs o,
    )

pub first_rises : (p j k : ℕ) (phases : List BlockPhase) (o : Option (List ℕ))
    → j ≤ k
    → steps_named p (blocks_of (take j phases)) o ≤ steps_named p (blocks_of (take k phases)) o
first_rises p zero k phases None le = omega arith
first_rises p zero k phases (Some name) le = omega arith
first_rises p (suc j) zero phases o le = absurd (omega (arith, le))
first_rises p (suc j) (suc k) [] o le = omega arith
first_rises p (suc j) (suc k) (x ∷ xs) o le =
    omega (
      arith,
      named_append p x.blocks (blocks_of (take j xs)) o,
      named_append p x.blocks (blocks_of (take k xs)) o,
      first_rises p j k xs o (omega (arith, le)),
    )
