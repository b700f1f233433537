-- What was passed down at a step, as it is noted.
use Rattle.std.proofs.Common.{◌≡◌, ℕ, zero, suc, ◌+◌, ◌<◌, ◌==◌, ◌&&◌, Bool, List, [], ◌∷◌, ◌++◌}
use Rattle.std.proofs.Common.{Vec, Global, inl, inr, if◌then◌else◌, length, map, get_or, refl, sym, ap, ◌∙◌}
use Rattle.std.proofs.Common.{subst, arith}
use Rattle.std.specs.Prelude.{slice_index_or, slice_set}
use Rattle.std.proofs.lemmas.Bool.{cases_eq, eq-eqb, ne_eqb}
use Rattle.std.proofs.lemmas.List.{get_or-set_same, get_or-set_other, length-map, map-append, map-set}
use Rattle.derived_session.specs.declared.passed.PassedDown.{PassedDown}
use Rattle.derived_session.specs.declared.slots.StepSlot.{StepSlot}
use Rattle.derived_session.specs.Slots.{no_slot, with_down, slot_in, slot_at}

abbrev pub lists : List (Vec StepSlot Global) → List (List StepSlot)
lists slots = map (λ (s : Vec StepSlot Global). s.items) slots

-- ---- room

one_more : (slots : List (List StepSlot)) (c step : ℕ) → slot_at (slots ++ [] ∷ []) c step ≡ slot_at slots c step
one_more [] zero step = refl
one_more [] (suc c) step = refl
one_more (s ∷ ss) zero step = refl
one_more (s ∷ ss) (suc c) step = one_more ss c step

pub caller_more : (old new : List (Vec StepSlot Global)) (v : Vec StepSlot Global)
    → new ≡ old ++ v ∷ []
    → v.items ≡ []
    → (c step : ℕ)
    → slot_at (lists new) c step ≡ slot_at (lists old) c step
caller_more old new v are none c step =
    ap (λ (vs : List (Vec StepSlot Global)). slot_at (lists vs) c step) are
    ∙ (ap (λ (xs : List (List StepSlot)). slot_at xs c step) (map-append (λ (s : Vec StepSlot Global). s.items) old
    (v ∷ []))
    ∙ (ap (λ (xs : List StepSlot). slot_at (lists old ++ xs ∷ []) c step) none ∙ one_more (lists old) c step))

pub step_more : (steps : List StepSlot) (n : ℕ) → slot_in (steps ++ no_slot ∷ []) n ≡ slot_in steps n
step_more [] zero = refl
step_more [] (suc n) = refl
step_more (s ∷ ss) zero = refl
step_more (s ∷ ss) (suc n) = step_more ss n

-- ---- one caller

abbrev noted : PassedDown → (c step : ℕ) → StepSlot → StepSlot
noted one c step slot = if one.caller == c && one.step == step then with_down slot one.down else slot

pub caller_noted : (slots : List (List StepSlot)) (one : PassedDown) (steps : List StepSlot) (c step : ℕ)
    → one.caller < length slots
    → ((n : ℕ)
    → slot_in steps n
    ≡ (if one.step == n
    then with_down (slot_in (slice_index_or slots one.caller []) n) one.down
    else slot_in (slice_index_or slots one.caller []) n))
    → slot_at (slice_set slots one.caller steps) c step
    ≡ (if one.caller == c && one.step == step then with_down (slot_at slots c step) one.down else slot_at slots c step)
caller_noted slots one steps c step within are = elim (cases_eq c one.caller) [
  | inl same ↦
      subst
      (λ (m : ℕ). slot_at (slice_set slots one.caller steps) m step ≡ noted one m step (slot_at slots m step))
      (sym same)
      (ap (λ (xs : List StepSlot). slot_in xs step) (get_or-set_same slots one.caller steps [] within)
      ∙ (are step
      ∙ ap
      (λ (b : Bool).
      if b && one.step == step
      then with_down (slot_at slots one.caller step) one.down
      else slot_at slots one.caller step)
      (sym (eq-eqb one.caller one.caller refl))))
  | inr other ↦
      ap (λ (xs : List StepSlot). slot_in xs step) (get_or-set_other slots one.caller c steps [] other)
      ∙ ap
      (λ (b : Bool).
      if b && one.step == step then with_down (slot_at slots c step) one.down else slot_at slots c step)
      (sym (ne_eqb one.caller c (λ e. other (sym e))))
]

-- ---- in the vectors that hold it

pub note_one : (old reached : List (Vec StepSlot Global)) (one : PassedDown) (was steps : Vec StepSlot Global)
    → one.caller < length reached
    → ((c step : ℕ) → slot_at (lists reached) c step ≡ slot_at (lists old) c step)
    → was ≡ get_or reached one.caller was
    → ((step : ℕ)
    → slot_in steps.items step
    ≡ (if one.step == step then with_down (slot_in was.items step) one.down else slot_in was.items step))
    → (c step : ℕ)
    → slot_at (lists (slice_set reached one.caller steps)) c step
    ≡ (if one.caller == c && one.step == step
    then with_down (slot_at (lists old) c step) one.down
    else slot_at (lists old) c step)
note_one old reached one was steps within same stands are c step =
    let there : slice_index_or (lists reached) one.caller [] ≡ was.items =
    listed reached one.caller was within stands in
    ap (λ (xs : List (List StepSlot)). slot_at xs c step)
    (map-set (λ (s : Vec StepSlot Global). s.items) reached one.caller steps)
    ∙ (caller_noted (lists reached) one steps.items c step
    (subst (λ (n : ℕ). one.caller < n) (sym (length-map reached (λ (s : Vec StepSlot Global). s.items))) within)
    (λ n.
    are n
    ∙ ap
    (λ (xs : List StepSlot). if one.step == n then with_down (slot_in xs n) one.down else slot_in xs n) (sym there))
    ∙ ap
    (λ (s : StepSlot). if one.caller == c && one.step == step then with_down s one.down else s) (same c step))
  where
    listed : (xs : List (Vec StepSlot Global)) (i : ℕ) (v : Vec StepSlot Global)
        → i < length xs
        → v ≡ get_or xs i v
        → slice_index_or (lists xs) i [] ≡ v.items
    listed [] i v lt e = absurd (omega (arith, lt))
    listed (x ∷ xs) zero v lt e = ap (λ (y : Vec StepSlot Global). y.items) (sym e)
    listed (x ∷ xs) (suc i) v lt e = listed xs i v (omega (arith, lt)) e
