-- The steps of a script, one by one.
use Rattle.std.proofs.Common.{◌≡◌, ◌≤◌, ◌<◌, ◌⊎◌, inl, inr, ℕ, zero, suc, ◌+◌, ◌-◌, Bool, true, false, ◌&&◌, ◌||◌}
use Rattle.std.proofs.Common.{List, [], ◌∷◌, ◌++◌, Option, None, Some, length, map, take, drop, nat_lt, replicate}
use Rattle.std.proofs.Common.{if◌then◌else◌, refl, sym, ap, ◌∙◌, arith, append_assoc, append-nil}
use Rattle.std.specs.Prelude.{IsTrue, slice_get}
use Rattle.std.proofs.lemmas.Bool.{cases_lt, false≢true}
use Rattle.std.proofs.lemmas.Bool.Decides.{nat_tests}
use Rattle.std.proofs.lemmas.List.{drop_all}
use Rattle.tty_calls.specs.Plain.{PlainCall}
use Rattle.passed_calls.specs.declared.placed.PlacedCall.{PlacedCall}
use Rattle.passed_calls.specs.Scripts.{AnyCall, plain, further, mixed}
use Rattle.derived_session.specs.declared.calls.Cursor.{Cursor}
use Rattle.derived_session.specs.declared.slots.StepSlot.{StepSlot}
use Rattle.derived_session.specs.Steps.{CallerStep, step_of}
use Rattle.derived_session.specs.Slots.{calls_from, hangup_list, slot_calls, slot_in}
use Rattle.derived_session.specs.Walks.{WalksOn, next_further, steps_left}

is_lt : (a b : ℕ) → a < b → nat_lt a b ≡ true
is_lt a b lt = grind (arith, nat_tests)

not_lt : (a b : ℕ) → b ≤ a → nat_lt a b ≡ false
not_lt a b le = grind (arith, nat_tests)

lt_is : (a b : ℕ) → nat_lt a b ≡ true → a < b
lt_is a b e = grind (arith, nat_tests)

none_some : {X : Type 0} (x : X) → None ≡ Some x → ⊥
none_some x e = absurd (cc)

some_is : {X : Type 0} (x y : X) → Some x ≡ Some y → x ≡ y
some_is x y e = cc

pub next_got : {A : Type 0} (xs : List A) (i : ℕ) (x : A) → slice_get xs i ≡ Some x → drop i xs ≡ x ∷ drop (i + 1) xs
next_got [] i x e = absurd (none_some x e)
next_got (y ∷ ys) zero x e = ap (λ z. z ∷ ys) (some_is y x e)
next_got (y ∷ ys) (suc i) x e =
    (let more : suc (i + 1) ≡ suc i + 1 = omega arith in
    next_got ys i x e ∙ ap (λ n. x ∷ drop n (y ∷ ys)) more)

got_or_none : {A : Type 0} (xs : List A) (i : ℕ)
    → (length xs ≤ i) ⊎ ((x : A) × (slice_get xs i ≡ Some x) × (i < length xs))
got_or_none [] i = inl (omega arith)
got_or_none (x ∷ xs) zero = inr (x, refl, omega arith)
got_or_none (x ∷ xs) (suc i) = elim (got_or_none xs i) [
  | inl le ↦ inl (omega (arith, le))
  | inr h ↦ inr (h.0, h.1, omega (arith, h.2))
]

-- ---- what comes first

abbrev glued : {C : Type 0} → ℕ → List PlainCall → PlacedCall C → List (PlacedCall C) → List (AnyCall C)
glued k calls o os = map plain (take k calls) ++ further o.call ∷ mixed (o.place + 1) (drop k calls) os

glued_none : {C : Type 0} (k : ℕ) (o : PlacedCall C) (os : List (PlacedCall C))
    → glued k [] o os ≡ further o.call ∷ mixed (o.place + 1) [] os
glued_none zero o os = refl
glued_none (suc k) o os = refl

-- a call that is not for the port
further_first : {C : Type 0} (n : ℕ) (calls : List PlainCall) (o : PlacedCall C) (os : List (PlacedCall C))
    → (calls ≡ []) ⊎ (o.place ≤ n)
    → mixed n calls (o ∷ os) ≡ further o.call ∷ mixed (o.place + 1) calls os
further_first n calls o os (inl none) =
    ap (λ (cs : List PlainCall). glued (o.place - n) cs o os) none
    ∙ (glued_none (o.place - n) o os
    ∙ ap (λ (cs : List PlainCall). further o.call ∷ mixed (o.place + 1) cs os) (sym none))
further_first n calls o os (inr le) =
    (let none : o.place - n ≡ 0 = omega (arith, le) in ap (λ (k : ℕ). glued k calls o os) none)

-- or one that is
plain_first : {C : Type 0} (n : ℕ) (c : PlainCall) (cs : List PlainCall) (os : List (PlacedCall C))
    → ((o : PlacedCall C) (rest : List (PlacedCall C)) → os ≡ o ∷ rest → n < o.place)
    → mixed n (c ∷ cs) os ≡ plain c ∷ mixed (n + 1) cs os
plain_first n c cs [] before = refl
plain_first n c cs (o ∷ os) before =
    let lt = before o os refl in
    let more : o.place - n ≡ suc (o.place - (n + 1)) = omega (arith, lt) in
    ap (λ k. glued k (c ∷ cs) o os) more

-- ---- what is passed down where the port sees no call

only_hangup : (slot : StepSlot) → slot_calls slot None ≡ hangup_list slot.hangup
only_hangup slot = by_own slot.own
  where
    by_own : (b : Bool) → (if b then [] else []) ++ hangup_list slot.hangup ≡ hangup_list slot.hangup
    by_own true = refl
    by_own false = refl

-- ---- the test

module _ {C : Type 0} (calls : List PlainCall) (placed : List (PlacedCall C)) (at : Cursor) where
  abbrev count : ℕ
  count = length calls

  -- it is not for the port
  pub record IsFurther (place : ℕ) : Type 0 where
    pub call : PlacedCall C
    pub stands : slice_get placed at.own ≡ Some call
    pub at_place : call.place ≡ place
    pub comes : at.taken < count → place ≤ at.place

  by_test : (o : PlacedCall C) (place : ℕ) (b : Bool)
      → slice_get placed at.own ≡ Some o
      → (nat_lt at.taken count && nat_lt at.place o.place) ≡ b
      → (if b then None else Some o.place) ≡ Some place
      → IsFurther place
  by_test o place true stands is e = absurd (none_some place e)
  by_test o place false stands is e = record {
    call = o;
    stands = stands;
    at_place = some_is o.place place e;
    comes = λ lt. elim (cases_lt at.place o.place) [
      | inl before ↦ absurd (false≢true (sym is ∙ both (is_lt at.taken count lt) (is_lt at.place o.place before)))
      | inr le ↦ omega (arith, le, some_is o.place place e)
    ];
  }
    where
      both : {a b : Bool} → a ≡ true → b ≡ true → (a && b) ≡ true
      both {a} {b} p q = ap (λ (x : Bool). x && b) p ∙ q

  pub is_further : (place : ℕ) → next_further count (slice_get placed at.own) at ≡ Some place → IsFurther place
  is_further place e = by_get (slice_get placed at.own) refl e
    where
      by_get : (o : Option (PlacedCall C))
          → slice_get placed at.own ≡ o
          → next_further count o at ≡ Some place
          → IsFurther place
      by_get None is e = absurd (none_some place e)
      by_get (Some o) is e = by_test o place (nat_lt at.taken count && nat_lt at.place o.place) is refl e

  plain_test : (o : PlacedCall C) (b d : Bool)
      → nat_lt at.taken count ≡ b
      → nat_lt at.place o.place ≡ d
      → (if b && d then None else Some o.place) ≡ None
      → (at.taken < count) × (at.place < o.place)
  plain_test o true true x y e = (lt_is at.taken count x, lt_is at.place o.place y)
  plain_test o true false x y e = absurd (none_some o.place (sym e))
  plain_test o false d x y e = absurd (none_some o.place (sym e))

  -- it is for the port
  pub is_before : next_further count (slice_get placed at.own) at ≡ None → (o : PlacedCall C)
      → slice_get placed at.own ≡ Some o → (at.taken < count) × (at.place < o.place)
  is_before e o stands =
      plain_test o (nat_lt at.taken count) (nat_lt at.place o.place) refl refl
      (ap (λ (x : Option (PlacedCall C)). next_further count x at) (sym stands) ∙ e)

  or_true : (a b : Bool) → IsTrue (a || b) → (a ≡ true) ⊎ (b ≡ true)
  or_true true b h = inl refl
  or_true false b h = inr h

  pub plain_comes : IsTrue (nat_lt at.taken count || nat_lt at.own (length placed))
      → next_further count (slice_get placed at.own) at ≡ None → at.taken < count
  plain_comes some e = elim (or_true (nat_lt at.taken count) (nat_lt at.own (length placed)) some) [
    | inl t ↦ lt_is at.taken count t
    | inr o ↦ elim (got_or_none placed at.own) [
      | inl le ↦ absurd (false≢true (sym (not_lt at.own (length placed) le) ∙ o))
      | inr h ↦ (is_before e h.0 h.1).0
    ]
  ]

  -- ---- one step

  within_own : (place : ℕ) → IsFurther place → at.own < length placed
  within_own place h = elim (got_or_none placed at.own) [
    | inl le ↦ absurd (none_some h.call (sym (none_past placed at.own le) ∙ h.stands))
    | inr x ↦ x.2
  ]
    where
      none_past : (xs : List (PlacedCall C)) (i : ℕ) → length xs ≤ i → slice_get xs i ≡ None
      none_past [] i le = refl
      none_past (x ∷ xs) zero le = absurd (omega (arith, le))
      none_past (x ∷ xs) (suc i) le = none_past xs i (omega (arith, le))

  further_left : (place : ℕ) (next : Cursor)
      → IsFurther place
      → next.taken ≡ at.taken
      → next.own ≡ at.own + 1
      → next.place ≡ place + 1
      → steps_left calls placed at ≡ None ∷ steps_left calls placed next
  further_left place next h taken own at_place =
      let rest : List (PlacedCall C) = drop (at.own + 1) placed in
      let choice : (drop at.taken calls ≡ []) ⊎ (h.call.place ≤ at.place) = elim (cases_lt at.taken count) [
        | inl lt ↦ inr (omega (arith, h.comes lt, h.at_place))
        | inr le ↦ inl (drop_all at.taken calls le)
      ] in
      ap (λ (os : List (PlacedCall C)). map step_of (mixed at.place (drop at.taken calls) os))
      (next_got placed at.own h.call h.stands)
      ∙ (ap (λ (cs : List (AnyCall C)). map step_of cs)
      (further_first at.place (drop at.taken calls) h.call rest choice)
      ∙ (ap (λ (n : ℕ). None ∷ map step_of (mixed n (drop at.taken calls) rest))
      (ap (λ (m : ℕ). m + 1) h.at_place ∙ sym at_place)
      ∙ (ap (λ (n : ℕ). None ∷ map step_of (mixed next.place (drop n calls) rest)) (sym taken)
      ∙ ap (λ (n : ℕ). None ∷ map step_of (mixed next.place (drop next.taken calls) (drop n placed))) (sym own))))

  plain_left : (c : PlainCall) (next : Cursor)
      → next_further count (slice_get placed at.own) at ≡ None
      → slice_get calls at.taken ≡ Some c
      → next.taken ≡ at.taken + 1
      → next.own ≡ at.own
      → next.place ≡ at.place + 1
      → steps_left calls placed at ≡ Some c ∷ steps_left calls placed next
  plain_left c next none stands taken own at_place =
      ap (λ (cs : List PlainCall). map step_of (mixed at.place cs (drop at.own placed)))
      (next_got calls at.taken c stands)
      ∙ (ap (λ (cs : List (AnyCall C)). map step_of cs)
      (plain_first at.place c (drop (at.taken + 1) calls) (drop at.own placed)
      (λ o rest e. (is_before none o (first_of placed at.own o rest e)).1))
      ∙ (ap (λ (n : ℕ). Some c ∷ map step_of (mixed n (drop (at.taken + 1) calls) (drop at.own placed))) (sym at_place)
      ∙ (ap (λ (n : ℕ). Some c ∷ map step_of (mixed next.place (drop n calls) (drop at.own placed))) (sym taken)
      ∙ ap (λ (n : ℕ). Some c ∷ map step_of (mixed next.place (drop next.taken calls) (drop n placed))) (sym own))))
    where
      first_of : (xs : List (PlacedCall C)) (i : ℕ) (x : PlacedCall C) (rest : List (PlacedCall C))
          → drop i xs ≡ x ∷ rest
          → slice_get xs i ≡ Some x
      first_of [] zero x rest e = absurd (cc)
      first_of [] (suc i) x rest e = absurd (cc)
      first_of (y ∷ ys) zero x rest e = ap (λ (zs : List (PlacedCall C)). slice_get zs 0) e
      first_of (y ∷ ys) (suc i) x rest e = first_of ys i x rest e

  -- a step more, at which this is passed down
  step_more : (slots : List StepSlot) (old new : List PlainCall) (made : CallerStep) (next : Cursor)
      → steps_left calls placed at ≡ made ∷ steps_left calls placed next
      → next.step ≡ at.step + 1
      → new ≡ old ++ slot_calls (slot_in slots at.step) made
      → (new ++ calls_from slots next.step (steps_left calls placed next)
      ≡ old ++ calls_from slots at.step (steps_left calls placed at))
      × (next.step + length (steps_left calls placed next) ≡ at.step + length (steps_left calls placed at))
  step_more slots old new made next left step put =
      let rest = steps_left calls placed next in
      let here = slot_calls (slot_in slots at.step) made in (
        ap (λ (n : ℕ). new ++ calls_from slots n rest) step
            ∙ (ap (λ (cs : List PlainCall). cs ++ calls_from slots (at.step + 1) rest) put
            ∙ (append_assoc old here (calls_from slots (at.step + 1) rest)
            ∙ ap (λ (ss : List CallerStep). old ++ calls_from slots at.step ss) (sym left))),
        omega (arith, step, ap (λ (ss : List CallerStep). length ss) left),
      )

  pub further_on : (slots : List StepSlot) (old new : List PlainCall) (place : ℕ) (next : Cursor)
      → next_further count (slice_get placed at.own) at ≡ Some place
      → new ≡ old ++ hangup_list (slot_in slots at.step).hangup
      → next.step ≡ at.step + 1
      → next.taken ≡ at.taken
      → next.own ≡ at.own + 1
      → next.place ≡ place + 1
      → WalksOn slots calls placed at old next new
  further_on slots old new place next is put step taken own at_place =
      let h = is_further place is in
      let on = step_more slots old new None next (further_left place next h taken own at_place) step
      (put ∙ ap (λ (cs : List PlainCall). old ++ cs) (sym (only_hangup (slot_in slots at.step)))) in
      record {
        calls_are = on.0;
        step = on.1;
        less = omega (arith, within_own place h, taken, own);
      }

  pub plain_on : (slots : List StepSlot) (old new : List PlainCall) (c : PlainCall) (next : Cursor)
      → IsTrue (nat_lt at.taken count || nat_lt at.own (length placed))
      → next_further count (slice_get placed at.own) at ≡ None
      → slice_get calls at.taken ≡ Some c
      → new ≡ old ++ slot_calls (slot_in slots at.step) (Some c)
      → next.step ≡ at.step + 1
      → next.taken ≡ at.taken + 1
      → next.own ≡ at.own
      → next.place ≡ at.place + 1
      → WalksOn slots calls placed at old next new
  plain_on slots old new c next some is stands put step taken own at_place =
      let on = step_more slots old new (Some c) next (plain_left c next is stands taken own at_place) step put in
      record {
        calls_are = on.0;
        step = on.1;
        less = omega (arith, plain_comes some is, taken, own);
      }

-- all steps are walked
pub walked_all : {C : Type 0} (slots : List StepSlot) (calls made all : List PlainCall) (placed : List (PlacedCall C))
    (at : Cursor) (end : ℕ)
    → length calls ≤ at.taken
    → length placed ≤ at.own
    → made ++ calls_from slots at.step (steps_left calls placed at) ≡ all
    → at.step + length (steps_left calls placed at) ≡ end
    → (made ≡ all) × (at.step ≡ end)
walked_all {C} slots calls made all placed at end taken own are steps =
    let none : steps_left calls placed at ≡ [] =
    ap (λ (cs : List PlainCall). map step_of (mixed {C = C} at.place cs (drop at.own placed)))
    (drop_all at.taken calls taken)
    ∙ ap (λ (os : List (PlacedCall C)). map step_of (mixed {C = C} at.place [] os)) (drop_all at.own placed own) in (
      sym (append-nil made)
          ∙ (ap (λ (ss : List CallerStep). made ++ calls_from slots at.step ss) (sym none) ∙ are),
      omega (arith, steps, ap (λ (ss : List CallerStep). length ss) none),
    )

-- ---- what is passed down at it

pub call_added : (slot : StepSlot) (old some new : List PlainCall) (c : PlainCall)
    → some ≡ old ++ (if slot.own then c ∷ [] else [])
    → new ≡ some ++ hangup_list slot.hangup
    → new ≡ old ++ slot_calls slot (Some c)
call_added slot old some new c own hangup =
    hangup
    ∙ (ap (λ (cs : List PlainCall). cs ++ hangup_list slot.hangup) own
    ∙ append_assoc old (if slot.own then c ∷ [] else []) (hangup_list slot.hangup))

-- ---- steps at which the port sees no call

pub hangups_more : (slots : List StepSlot) (old new all : List PlainCall) (step next first count i : ℕ)
    → i < count
    → new ≡ old ++ hangup_list (slot_in slots step).hangup
    → next ≡ step + 1
    → old ++ calls_from slots step (replicate (count - i) None) ≡ all
    → step + (count - i) ≡ first + count
    → (new ++ calls_from slots next (replicate (count - (i + 1)) None) ≡ all)
    × (next + (count - (i + 1)) ≡ first + count)
hangups_more slots old new all step next first count i lt put is are steps =
    let more : count - i ≡ suc (count - (i + 1)) = omega (arith, lt) in
    let rest : List CallerStep = replicate (count - (i + 1)) None in (
      ap (λ (n : ℕ). new ++ calls_from slots n rest) is
          ∙ (ap (λ (cs : List PlainCall). cs ++ calls_from slots (step + 1) rest)
          (put ∙ ap (λ (cs : List PlainCall). old ++ cs) (sym (only_hangup (slot_in slots step))))
          ∙ (append_assoc old (slot_calls (slot_in slots step) None) (calls_from slots (step + 1) rest)
          ∙ (ap (λ (n : ℕ). old ++ calls_from slots step (replicate n None)) (sym more) ∙ are))),
      omega (arith, lt, is, steps),
    )

pub hangups_done : (slots : List StepSlot) (made all : List PlainCall) (step first count i : ℕ)
    → count ≤ i
    → made ++ calls_from slots step (replicate (count - i) None) ≡ all
    → step + (count - i) ≡ first + count
    → (made ≡ all) × (step ≡ first + count)
hangups_done slots made all step first count i over are steps =
    let none : count - i ≡ 0 = omega (arith, over) in (
      sym (append-nil made)
          ∙ (ap (λ (n : ℕ). made ++ calls_from slots step (replicate n None)) (sym none) ∙ are),
      omega (arith, none, steps),
    )
