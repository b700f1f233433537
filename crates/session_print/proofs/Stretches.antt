-- Places of steps, noted one after the other.
use Rattle.std.proofs.Common.{◌≡◌, inl, inr, ℕ, Bool, ◌==◌, ◌&&◌, List, [], ◌∷◌, ◌++◌, ◌+◌, ◌/◌}
use Rattle.std.proofs.Common.{◌%◌, ◌<◌, arith, length, get_or, map, set, refl, sym, ap, ◌∙◌, cond}
use mathlib.Core.Logic.{⊎_elim}
use Rattle.std.proofs.lemmas.Bool.{cases_eq, cases_order, eq-eqb, ne_eqb, le-ltb}
use Rattle.std.proofs.lemmas.Grind.{get_or-set_at}
use Rattle.std.proofs.lemmas.List.{get_or-map, get_or-set_other, get_or_append_left}
use Rattle.std.proofs.lemmas.List.{get_or_past, length-map, length-append, map-append, map-set}
use Rattle.std.proofs.Math.Seq.{get_or-append_seam}
use Rattle.session_print.specs.declared.places.Stretch.{Stretch}
use Rattle.session_print.specs.Sizes.{STEPS}
use Rattle.session_print.specs.Printing.{PlainStretch, stretch_of, stretches_of, no_stretch, place_at, place_on}

-- of an item that is set among others, what is looked up in it
one_set : {A : Type 0} (look : A → ℕ → ℕ) (items : List A) (item none : A) (at i k place : ℕ) (hit : Bool)
    → at < length items
    → look item k ≡ cond hit place (look (get_or items at none) k)
    → look (get_or (set items at item) i none) k ≡ cond ((at == i) && hit) place (look (get_or items i none) k)
one_set look items item none at i k place hit within is =
    elim (cases_eq at i) [
      | inl same ↦
          ap (λ x. look x k) (get_or-set_at items at i item none (sym same) within)
          ∙ is
          ∙ ap (λ n. cond hit place (look (get_or items n none) k)) same
          ∙ ap (λ b. cond (b && hit) place (look (get_or items i none) k)) (sym (eq-eqb at i same))
      | inr other ↦
          ap (λ x. look x k) (get_or-set_other items at i item none (λ e. other (sym e)))
          ∙ ap (λ b. cond (b && hit) place (look (get_or items i none) k)) (sym (ne_eqb at i other))
    ]

-- an item in which no more is found than in none
one_more : {A : Type 0} (look : A → ℕ → ℕ) (items : List A) (item none : A) (i k : ℕ) → look item k ≡ look none k
    → look (get_or (items ++ item ∷ []) i none) k ≡ look (get_or items i none) k
one_more look items item none i k same =
    let past : length items < i → get_or (items ++ item ∷ []) i none ≡ none = λ more.
    get_or_past (items ++ item ∷ []) i none (rw length-append (omega (arith, more))) in
    ⊎_elim
    (λ is.
    ap (λ n. look (get_or (items ++ item ∷ []) n none) k) is
    ∙ ap (λ x. look x k) (get_or-append_seam items item [] none)
    ∙ same
    ∙ ap (λ x. look x k) (sym (get_or_past items i none (omega (arith, is)))))
    (λ apart. ⊎_elim
    (λ less. ap (λ x. look x k) (get_or_append_left items (item ∷ []) none i less))
    (λ more. ap (λ x. look x k) (past more ∙ sym (get_or_past items i none (omega (arith, more)))))
    apart)
    (cases_order i (length items))

-- a step's stretch, and its place there, tell it from other steps
same_step : (a b : ℕ) → ((a / STEPS == b / STEPS) && (a % STEPS == b % STEPS)) ≡ (a == b)
same_step a b =
    elim (cases_eq a b) [
      | inl same ↦
          ap (λ n. (a / STEPS == n / STEPS) && (a % STEPS == n % STEPS)) (sym same)
          ∙ ap (λ x. x && (a % STEPS == a % STEPS)) (eq-eqb (a / STEPS) (a / STEPS) refl)
          ∙ eq-eqb (a % STEPS) (a % STEPS) refl
          ∙ sym (eq-eqb a b same)
      | inr other ↦ elim (cases_eq (a / STEPS) (b / STEPS)) [
        | inl same ↦
            ap (λ x. x && (a % STEPS == b % STEPS)) (eq-eqb (a / STEPS) (b / STEPS) same)
            ∙ ne_eqb (a % STEPS) (b % STEPS) (λ e. other (omega (arith, same, e)))
            ∙ sym (ne_eqb a b other)
        | inr apart ↦
            ap (λ x. x && (a % STEPS == b % STEPS)) (ne_eqb (a / STEPS) (b / STEPS) apart) ∙ sym (ne_eqb a b other)
      ]
    ]

-- a place noted in its stretch of a row
row_noted : (row : List PlainStretch) (new : PlainStretch) (step place : ℕ)
    → step / STEPS < length row
    → ((at : ℕ)
    → place_at new at ≡ cond (step % STEPS == at) place (place_at (get_or row (step / STEPS) no_stretch) at))
    → (at : ℕ)
    → place_on (set row (step / STEPS) new) at ≡ cond (step == at) place (place_on row at)
row_noted row new step place within is at =
    one_set place_at row new no_stretch (step / STEPS) (at / STEPS) (at % STEPS) place (step % STEPS == at % STEPS)
    within (is (at % STEPS))
    ∙ ap (λ b. cond b place (place_on row at)) (same_step step at)

pub stretch_noted : (before row : List Stretch) (old new : Stretch) (step place : ℕ)
    → step / STEPS < length row
    → ((at : ℕ) → place_on (stretches_of row) at ≡ place_on (stretches_of before) at)
    → old ≡ get_or row (step / STEPS) old
    → ((at : ℕ) → place_at (stretch_of new) at ≡ cond (step % STEPS == at) place (place_at (stretch_of old) at))
    → (at : ℕ)
    → place_on (stretches_of (set row (step / STEPS) new)) at
    ≡ cond (step == at) place (place_on (stretches_of before) at)
stretch_noted before row old new step place within longer is put at =
    let here : stretch_of old ≡ get_or (stretches_of row) (step / STEPS) no_stretch =
    ap stretch_of is ∙ sym (get_or-map stretch_of row (step / STEPS) old no_stretch within) in
    ap (λ ss. place_on ss at) (map-set stretch_of row (step / STEPS) new)
    ∙ row_noted (stretches_of row) (stretch_of new) step place (rw length-map within)
    (λ k. put k ∙ ap (λ s. cond (step % STEPS == k) place (place_at s k)) here) at
    ∙ ap (cond (step == at) place) (longer at)

-- a stretch without a place
empty_stretch : (first step : ℕ)
    → place_at (record { first = first; count = 0; list = [] }) step ≡ place_at no_stretch step
empty_stretch first step =
    ap (λ b. cond b (first + step) 0) (le-ltb step 0 (omega arith))
    ∙ sym (ap (λ b. cond b (0 + step) 0) (le-ltb step 0 (omega arith)))

-- .. at the end of a row
pub row_longer : (before row new : List Stretch) (added : Stretch)
    → new ≡ row ++ added ∷ []
    → stretch_of added ≡ record { first = added.first; count = 0; list = [] }
    → ((at : ℕ) → place_on (stretches_of row) at ≡ place_on (stretches_of before) at)
    → (at : ℕ)
    → place_on (stretches_of new) at ≡ place_on (stretches_of before) at
row_longer before row new added is empty longer at =
    ap (λ ss. place_on (stretches_of ss) at) is
    ∙ ap (λ ss. place_on ss at) (map-append stretch_of row (added ∷ []))
    ∙ one_more place_at (stretches_of row) (stretch_of added) no_stretch (at / STEPS) (at % STEPS)
    (ap (λ s. place_at s (at % STEPS)) empty ∙ empty_stretch added.first (at % STEPS))
    ∙ longer at

-- a place noted in its caller's row
pub caller_noted : {V : Type 0} (view : V → List PlainStretch) (before rows : List V) (old new : V)
    (caller step place : ℕ)
    → caller < length rows
    → ((c : ℕ) → get_or (map view rows) c [] ≡ get_or (map view before) c [])
    → old ≡ get_or rows caller old
    → ((at : ℕ) → place_on (view new) at ≡ cond (step == at) place (place_on (view old) at))
    → (c at : ℕ)
    → place_on (get_or (map view (set rows caller new)) c []) at
    ≡ cond ((caller == c) && (step == at)) place (place_on (get_or (map view before) c []) at)
caller_noted view before rows old new caller step place within longer is put c at =
    let here : Bool = (caller == c) && (step == at) in
    let row : view old ≡ get_or (map view rows) caller [] =
    ap view is ∙ sym (get_or-map view rows caller old [] within) in
    ap (λ rs. place_on (get_or rs c []) at) (map-set view rows caller new)
    ∙ one_set place_on (map view rows) (view new) [] caller c at place (step == at) (rw length-map within)
    (put at ∙ ap (λ r. cond (step == at) place (place_on r at)) row)
    ∙ ap (λ r. cond here place (place_on r at)) (longer c)
