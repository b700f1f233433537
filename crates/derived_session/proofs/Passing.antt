-- What was passed down at a step, by what was noted of it.
use Rattle.std.proofs.Common.{◌≡◌, ◌≤◌, ◌<◌, ℕ, suc, ◌+◌, ◌==◌, ◌&&◌, Bool, true, false, cond}
use Rattle.std.proofs.Common.{List, [], ◌∷◌, ◌++◌, Option, None, Some, if◌then◌else◌, length, map}
use Rattle.std.proofs.Common.{refl, sym, ap, ◌∙◌, subst, arith, append_assoc, append-nil, length-append}
use Rattle.std.specs.Prelude.{slice_get}
use Rattle.std.proofs.lemmas.Bool.{eqb-true}
use Rattle.tty_calls.specs.Plain.{PlainCall, hangs_up}
use Rattle.passed_calls.specs.Derived.{Passing, by_caller, calls_at, calls_for}
use Rattle.derived_session.specs.declared.passed.Down.{Down}
use Rattle.derived_session.specs.declared.passed.Down.TheVariants as down
use Rattle.derived_session.specs.declared.passed.PassedDown.{PassedDown}
use Rattle.derived_session.specs.declared.slots.StepSlot.{StepSlot}
use Rattle.derived_session.specs.Steps.{CallerStep, own_call, calls_down, passing_of}
use Rattle.derived_session.specs.Slots.{with_down, slot_after, slot_in, own_list, hangup_list, slot_calls}
use Rattle.derived_session.specs.Slots.{calls_from}

-- ---- one passing more, where one call is passed at most

abbrev at_slot : StepSlot → Option CallerStep → List PlainCall
at_slot slot made = (if slot.own then own_call made else []) ++ hangup_list slot.hangup

own_more : (own : Bool) (hangup : Option ℕ) (calls : List PlainCall)
    → length (((if own then calls else []) ++ hangup_list hangup) ++ calls) ≤ 1
    → calls ++ hangup_list hangup ≡ ((if own then calls else []) ++ hangup_list hangup) ++ calls
own_more false None calls few = append-nil calls
own_more false (Some h) [] few = refl
own_more false (Some h) (c ∷ cs) few = absurd (omega (arith, few))
own_more true hangup [] few = sym (append-nil (hangup_list hangup))
own_more true hangup (c ∷ cs) few =
    absurd (omega (arith, few, length-append (cs ++ hangup_list hangup) (c ∷ cs)))

hangup_more : (first : List PlainCall) (hangup : Option ℕ) (h : ℕ)
    → length ((first ++ hangup_list hangup) ++ hangs_up h ∷ []) ≤ 1
    → first ++ hangup_list (Some h) ≡ (first ++ hangup_list hangup) ++ hangs_up h ∷ []
hangup_more first None h few = ap (λ (cs : List PlainCall). cs ++ hangs_up h ∷ []) (sym (append-nil first))
hangup_more first (Some g) h few = absurd (omega (
  arith,
  few,
  length-append (first ++ hangs_up g ∷ []) (hangs_up h ∷ []),
  length-append first (hangs_up g ∷ []),
))

down_more : (slot : StepSlot) (made : Option CallerStep) (d : Down)
    → length (at_slot slot made ++ calls_down made d) ≤ 1
    → at_slot (with_down slot d) made ≡ at_slot slot made ++ calls_down made d
down_more slot made down.Call few = own_more slot.own slot.hangup (own_call made) few
down_more slot made (down.Hangup h) few =
    hangup_more (if slot.own then own_call made else []) slot.hangup h few

-- ---- all passings of a step

module _ (made : (c step : ℕ) → Option CallerStep) (c step : ℕ) where
  abbrev at_step : List PassedDown → List PlainCall
  at_step ds = calls_at (by_caller c (map (passing_of made) ds)) step

  -- of one more
  abbrev here : PassedDown → List PlainCall
  here d = if d.caller == c && d.step == step then calls_down (made c step) d.down else []

  by_tests : (d : PassedDown) (ds : List PassedDown) (b t : Bool)
      → (d.caller == c) ≡ b
      → (d.step == step) ≡ t
      → calls_at (cond b (passing_of made d ∷ by_caller c (map (passing_of made) ds))
      (by_caller c (map (passing_of made) ds))) step
      ≡ (if b && t then calls_down (made c step) d.down else []) ++ at_step ds
  by_tests d ds false t is_caller is_step = refl
  by_tests d ds true false is_caller is_step =
      ap (λ (x : Bool). (if x then (passing_of made d).calls else []) ++ at_step ds) is_step
  by_tests d ds true true is_caller is_step =
      ap (λ (x : Bool). (if x then (passing_of made d).calls else []) ++ at_step ds) is_step
      ∙ (ap (λ (n : ℕ). calls_down (made n d.step) d.down ++ at_step ds) (eqb-true d.caller c is_caller)
      ∙ ap (λ (n : ℕ). calls_down (made c n) d.down ++ at_step ds) (eqb-true d.step step is_step))

  at_step_more : (d : PassedDown) (ds : List PassedDown) → at_step (d ∷ ds) ≡ here d ++ at_step ds
  at_step_more d ds = by_tests d ds (d.caller == c) (d.step == step) refl refl

  abbrev then_slot : StepSlot → PassedDown → StepSlot
  then_slot slot d = if d.caller == c && d.step == step then with_down slot d.down else slot

  slot_more : (slot : StepSlot) (d : PassedDown) (rest : List PlainCall) (b : Bool)
      → length (at_slot slot (made c step) ++ ((if b then calls_down (made c step) d.down else []) ++ rest)) ≤ 1
      → at_slot (if b then with_down slot d.down else slot) (made c step)
      ≡ at_slot slot (made c step) ++ (if b then calls_down (made c step) d.down else [])
  slot_more slot d rest false few = sym (append-nil (at_slot slot (made c step)))
  slot_more slot d rest true few =
      let calls = calls_down (made c step) d.down in
      down_more slot (made c step) d.down (omega (
        arith,
        few,
        length-append (at_slot slot (made c step)) (calls ++ rest),
        length-append calls rest,
        length-append (at_slot slot (made c step)) calls,
      ))

  pub slot_calls_are : (slot : StepSlot) (ds : List PassedDown)
      → length (at_slot slot (made c step) ++ at_step ds) ≤ 1
      → at_slot (slot_after slot ds c step) (made c step) ≡ at_slot slot (made c step) ++ at_step ds
  slot_calls_are slot [] few = sym (append-nil (at_slot slot (made c step)))
  slot_calls_are slot (d ∷ ds) few =
      let first = at_slot slot (made c step) in
      let more : length (first ++ (here d ++ at_step ds)) ≤ 1 =
      subst (λ (cs : List PlainCall). length (first ++ cs) ≤ 1) (at_step_more d ds) few in
      let grown : at_slot (then_slot slot d) (made c step) ≡ first ++ here d =
      slot_more slot d (at_step ds) (d.caller == c && d.step == step) more in
      let left : length (at_slot (then_slot slot d) (made c step) ++ at_step ds) ≤ 1 =
      subst (λ (cs : List PlainCall). length (cs ++ at_step ds) ≤ 1) (sym grown)
      (subst (λ (cs : List PlainCall). length cs ≤ 1) (sym (append_assoc first (here d) (at_step ds))) more) in
      slot_calls_are (then_slot slot d) ds left
      ∙ (ap (λ (cs : List PlainCall). cs ++ at_step ds) grown
      ∙ (append_assoc first (here d) (at_step ds)
      ∙ ap (λ (cs : List PlainCall). first ++ cs) (sym (at_step_more d ds))))

-- ---- the calls of a script

own_is : (made : CallerStep) → own_call (Some made) ≡ own_list made
own_is None = refl
own_is (Some call) = refl

pub calls_passed_are : (made : (c step : ℕ) → Option CallerStep) (c : ℕ) (mine : List Passing) (slots : List StepSlot)
    (n : ℕ) (steps : List CallerStep)
    → ((step : ℕ) → at_slot (slot_in slots step) (made c step) ≡ calls_at mine step)
    → ((i : ℕ) → i < length steps → made c (n + i) ≡ slice_get steps i)
    → calls_from slots n steps ≡ calls_for mine n (length steps)
calls_passed_are made c mine slots n [] are stands = refl
calls_passed_are made c mine slots n (s ∷ ss) are stands =
    let here : made c n ≡ Some s =
    (let same : n + 0 ≡ n = omega arith in ap (made c) (sym same) ∙ stands 0 (omega arith)) in
    let slot = slot_in slots n in
    let first : slot_calls slot s ≡ calls_at mine n =
    ap (λ (cs : List PlainCall). (if slot.own then cs else []) ++ hangup_list slot.hangup) (sym (own_is s))
    ∙ (ap (at_slot slot) (sym here) ∙ are n) in
    ap (λ (cs : List PlainCall). cs ++ calls_from slots (n + 1) ss) first
    ∙ ap (λ (cs : List PlainCall). calls_at mine n ++ cs)
    (calls_passed_are made c mine slots (n + 1) ss are (λ i lt.
    let along : (n + 1) + i ≡ n + suc i = omega arith in
    ap (made c) along ∙ stands (suc i) (omega (arith, lt))))
