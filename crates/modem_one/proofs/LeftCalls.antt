-- What is left between two turns of a phase.
use Rattle.std.proofs.Common.{◌≡◌, ◌≤◌, ◌<◌, ◌⊎◌, inl, inr, ℕ, zero, suc, ◌+◌, Bool, true, false, List, []}
use Rattle.std.proofs.Common.{◌∷◌, ◌++◌, None, Some, is_some, length, drop, get_or, if◌then◌else◌, refl, sym, ap}
use Rattle.std.proofs.Common.{◌∙◌, subst, arith}
use Rattle.std.specs.Prelude.{slice_get, slice_index_or, slice_set}
use Rattle.std.proofs.lemmas.Bool.{cases_eq, eq-eqb, false≢true}
use Rattle.std.proofs.lemmas.List.{get_or-set_same, get_or-set_other, length-set}
use Rattle.std.proofs.lemmas.Option.{same_Some, slice_get-get_or, slice_get_within}
use Rattle.port_core.specs.Ports.{PortValue}
use Rattle.tty_base.specs.Sizes.{MOST_STEPS}
use Rattle.play_base.specs.declared.roles.Role.{Role}
use Rattle.one_thread.specs.declared.after_line.Stand.{Stand}
use Rattle.one_thread.proofs.AfterLine.{all_known}
use Rattle.one_thread.proofs.Calling.{role_number, same_place}
use Rattle.passed_calls.specs.Derived.{Passing, AreInSteps}
use Rattle.order_laws.specs.Left.{HasGone, count_left}
use Rattle.order_laws.specs.Passed.{begin_of}
use Rattle.order_laws.specs.Witness.{scene_on}
use Rattle.order_laws.proofs.Steps.{step_own, step_other}
use Rattle.calls_left.specs.Remaining.{left_at, after_next, IsLeftTo}
use Rattle.modem_text.specs.Sessions.{ModemCall, ModemSession, PinStep}
use Rattle.modem_steps.specs.Derived.{block_phases, carrier_on, modem_call_at, call_in_phase}
use Rattle.modem_steps.specs.Steps.{items_from, next_call}
use Rattle.modem_steps.specs.Order.{is_of_phase}
use Rattle.modem_one.specs.declared.turns.Next.TheVariants as next
use Rattle.modem_one.specs.declared.acts.Taken.{Taken}
use Rattle.modem_one.specs.Desk.{DeskState, step_of, state_at}
use Rattle.modem_one.specs.Left.{AreCallsLeft, AreItemsLeft, turns_left}
use Rattle.modem_one.specs.Playing.{Frame}
use Rattle.modem_one.specs.Turns.{port_now}
use Rattle.modem_one.specs.AfterLine.{IsAtTurn, IsTurnOf, IsBetween, BeginsTurns, AreAsked, AreItems}
use Rattle.modem_one.specs.AfterLine.{IsNextOf, TakesCall, TakesNoCall}
use Rattle.modem_one.proofs.NextInPhase.{next_is_left}
use Rattle.modem_one.proofs.Taking.{plays_it, phase_is, roles_at, has_role}

-- ---- lists

none_some : {X : Type 0} (x : X) → None ≡ Some x → ⊥
none_some x e = absurd (cc)

pub head_of : (a : List ModemCall) (call : ModemCall) → slice_get a 0 ≡ Some call → a ≡ call ∷ after_next a
head_of [] call e = absurd (none_some call e)
head_of (x ∷ a) call e = ap (λ (y : ModemCall). y ∷ a) (same_Some x call e)

pub count_set : (left : List (List ModemCall)) (i : ℕ) (call : ModemCall) (rest : List ModemCall)
    → left_at left i ≡ call ∷ rest
    → count_left (slice_set left i rest) + 1 ≡ count_left left
count_set [] i call rest is = absurd (cc)
count_set (calls ∷ left) zero call rest is = omega (arith, ap (λ (cs : List ModemCall). length cs) is)
count_set (calls ∷ left) (suc i) call rest is = omega (arith, count_set left i call rest is)

pub left_within : (left : List (List ModemCall)) (i : ℕ) (call : ModemCall)
    → slice_get (left_at left i) 0 ≡ Some call
    → i < length left
left_within [] i call is = absurd (none_some call is)
left_within (calls ∷ left) zero call is = omega arith
left_within (calls ∷ left) (suc i) call is = let rest = left_within left i call is in omega (arith, rest)

pub items_length : (items : List PinStep) (step : PinStep)
    → slice_get items 0 ≡ Some step
    → length (drop 1 items) + 1 ≡ length items
items_length [] step is = absurd (cc)
items_length (x ∷ items) step is = omega arith

pub items_behind : (items : List PinStep) (i : ℕ) → slice_get (drop 1 items) i ≡ slice_get items (suc i)
items_behind [] i = refl
items_behind (x ∷ items) i = refl

-- ---- a call was made

module _ (p k : ℕ) (session : ModemSession) (next : List ℕ) (c : ℕ) where
  abbrev Left : List ℕ → ℕ → List ModemCall → Type 0
  Left steps x calls = IsLeftTo p k (block_phases session) (modem_call_at p session) steps x calls

  abbrev late : List ℕ
  late = slice_set next c (slice_index_or next c 0 + 1)

  long : length late ≡ length next
  long = length-set next c (slice_index_or next c 0 + 1)

  own_then : (call : ModemCall) (rest : List ModemCall) → Left next c (call ∷ rest) → Left late c rest
  own_then call rest h =
      let step : slice_index_or late c 0 ≡ slice_index_or next c 0 + 1 =
      step_own next c (slice_index_or next c 0 + 1) h.known in
      let count : slice_index_or next c 0 + suc (length rest) ≡ begin_of p (block_phases session) (k + 1) c = h.count in
      let few : slice_index_or next c 0 + suc (length rest) ≤ MOST_STEPS = h.few in
      record {
        known = omega (arith, h.known, long);
        from = omega (arith, h.from, step);
        count = omega (arith, count, step);
        each = λ i lt.
            let at : slice_index_or late c 0 + i ≡ slice_index_or next c 0 + suc i = omega (arith, step) in
            ap (λ (n : ℕ). modem_call_at p session c n) at ∙ h.each (suc i) (omega (arith, lt));
        few = omega (arith, few, step);
      }

  other_then : (x : ℕ) (calls : List ModemCall) → (x ≡ c → ⊥) → Left next x calls → Left late x calls
  other_then x calls other h =
      let step : slice_index_or late x 0 ≡ slice_index_or next x 0 =
      step_other next c x (slice_index_or next c 0 + 1) other in
      record {
        known = omega (arith, h.known, long);
        from = omega (arith, h.from, step);
        count = omega (arith, h.count, step);
        each = λ i lt. ap (λ (n : ℕ). modem_call_at p session x (n + i)) step ∙ h.each i lt;
        few = omega (arith, h.few, step);
      }

left_passed : (p k : ℕ) (session : ModemSession) (roles : List Role) (next : List ℕ) (left : List (List ModemCall))
    (place : ℕ) (r : Role) (call : ModemCall) (rest : List ModemCall)
    → AreCallsLeft p k session roles next left
    → slice_get roles place ≡ Some r
    → place < length left
    → ((i : ℕ) (q : Role) → slice_get roles i ≡ Some q → q.number ≡ r.number → i ≡ place)
    → left_at left place ≡ call ∷ rest
    → AreCallsLeft p k session roles (slice_set next r.number (slice_index_or next r.number 0 + 1))
    (slice_set left place rest)
left_passed p k session roles next left place r call rest h at within apart is =
    let c = r.number in
    let later = slice_set next c (slice_index_or next c 0 + 1) in
    let here : Left p k session next c later c (left_at (slice_set left place rest) place) =
    subst (λ (cs : List ModemCall). Left p k session next c later c cs)
    (sym (get_or-set_same left place rest [] within))
    (own_then p k session next c call rest
    (subst (λ (cs : List ModemCall). Left p k session next c next c cs) is (h.each place r at within))) in
    let many = length-set left place rest in
    record {
      many = omega (arith, many, h.many);
      each = λ i q q_at lt. elim (cases_eq i place) [
        | inl same ↦
            let q_is : r ≡ q = same_Some r q (sym at ∙ (ap (λ (j : ℕ). slice_get roles j) (sym same) ∙ q_at)) in
            subst (λ (j : ℕ). Left p k session next c later q.number (left_at (slice_set left place rest) j)) (sym same)
            (subst (λ (z : Role). Left p k session next c later z.number (left_at (slice_set left place rest) place))
            q_is here)
        | inr other ↦
            subst (λ (cs : List ModemCall). Left p k session next c later q.number cs)
            (sym (get_or-set_other left place i rest [] other))
            (other_then p k session next c q.number (left_at left i) (λ e. other (apart i q q_at e))
            (h.each i q q_at (omega (arith, lt, many))))
      ];
      callers = λ i q q_at lt. h.callers i q q_at (omega (arith, lt, many));
      others = λ x absent.
          step_other next c x (slice_index_or next c 0 + 1) (λ e. absent place r at (sym e)) ∙ h.others x absent;
    }

pub in_last_step : (from end : ℕ) (ms : List Passing) (m : Passing) → AreInSteps from end (ms ++ m ∷ []) → m.step < end
in_last_step from end [] m h = h.1
in_last_step from end (x ∷ ms) m h = in_last_step x.step end ms m h.2

test_cases : (b : Bool) → (b ≡ true) ⊎ (b ≡ false)
test_cases true = inl refl
test_cases false = inr refl

-- ---- between two turns

module _ (f : Frame) (roles : List Role) where
  abbrev p : ℕ
  p = f.first.port

  abbrev carrier : ℕ
  carrier = carrier_on p f.session

  abbrev k : ℕ
  k = f.start.terminal.phase

  -- no caller has two roles
  pub apart_at : (v : PortValue) (d : DeskState) (stand : Stand)
      → IsAtTurn f roles v d stand
      → (place : ℕ) (r : Role)
      → slice_get roles place ≡ Some r
      → (i : ℕ) (q : Role)
      → slice_get roles i ≡ Some q
      → q.number ≡ r.number
      → i ≡ place
  apart_at v d stand at place r here i q q_at same =
      let plays = plays_it f roles v d stand [] at.playing in
      same_place (scene_on p at.playing.playing.has.session) v.terminal.phase
      (f.scripts (scene_on p at.playing.playing.has.session)) roles i place plays.callers.are_roles
      (slice_get_within roles i q q_at) (slice_get_within roles place r here)
      (role_number roles i q q_at ∙ (same ∙ sym (role_number roles place r here)))

  pub begins_between : (v : PortValue) (d : DeskState) (stand : Stand) (left : List (List ModemCall))
      (items : List PinStep)
      → BeginsTurns f roles v d stand left items
      → IsBetween f roles v d stand left items
  begins_between v d stand left items h = record {
    at = h.at;
    frame = h.frame;
    calls = h.calls;
    items_are = h.items_are;
    over = λ i r at over. absurd (false≢true (sym (h.none_over r.number) ∙ over));
    carrier_over = λ over. absurd (false≢true (sym (h.none_over carrier) ∙ over));
  }

  pub asked_at : (v : PortValue) (d : DeskState) (stand : Stand) (left : List (List ModemCall)) (items : List PinStep)
      → IsBetween f roles v d stand left items
      → AreAsked f roles v d left
  asked_at v d stand left items h =
      let s = scene_on p h.at.playing.playing.has.session in record {
        many = h.calls.many;
        known = all_known s (f.scripts s) roles v stand (plays_it f roles v d stand [] h.at.playing);
        callers = roles_at f roles v d stand h.at;
        next_calls = λ i lt.
            let r = has_role f roles roles i (omega (arith, lt, h.calls.many)) in
            ap (λ (c : ℕ). next_call (port_now p f.session v) (state_at d 0 []) v.terminal c)
            (role_number roles i r.0 r.1)
            ∙ (ap (λ (j : ℕ). call_in_phase p f.session j r.0.number (step_of d r.0.number))
            (phase_is f roles v d stand [] h.at.playing)
            ∙ next_is_left p f.session k r.0.number d.next (left_at left i) h.at.next_of_all
            (h.calls.callers i r.0 r.1 lt) (h.calls.each i r.0 r.1 lt));
      }

  item_there : (items : List PinStep) (n j : ℕ)
      → AreItemsLeft p j f.session n items
      → is_of_phase j (slice_get (items_from p 0 f.session.phases) n) ≡ is_some (slice_get items 0)
  item_there [] n j h =
      let here : n ≡ n + 0 = omega arith in
      ap (λ (i : ℕ). is_of_phase j (slice_get (items_from p 0 f.session.phases) i)) here ∙ h.behind
  item_there (x ∷ items) n j h =
      let here : n ≡ n + 0 = omega arith in
      ap (λ (i : ℕ). is_of_phase j (slice_get (items_from p 0 f.session.phases) i)) here
      ∙ (ap (is_of_phase j) (h.each 0 x refl) ∙ eq-eqb j j refl)

  pub items_at : (v : PortValue) (d : DeskState) (stand : Stand) (left : List (List ModemCall)) (items : List PinStep)
      → IsBetween f roles v d stand left items
      → AreItems f v d items
  items_at v d stand left items h =
      ap (λ (j : ℕ). is_of_phase j (slice_get (items_from p 0 f.session.phases) d.items))
      (phase_is f roles v d stand [] h.at.playing)
      ∙ item_there items d.items k h.items_are

  pub going_at : (v : PortValue) (d : DeskState) (stand : Stand) (left : List (List ModemCall)) (items : List PinStep)
      → IsBetween f roles v d stand left items
      → (i : ℕ)
      → stand.going ≡ Some i
      → i < length roles
  going_at v d stand left items h i is = ((plays_it f roles v d stand [] h.at.playing).callers.goes_on i is).0

  -- the caller at the place whose turn it is
  pub place_at : (v : PortValue) (d : DeskState) (stand : Stand) (place : ℕ) (r : Role)
      → IsTurnOf f roles v d stand (next.Call place)
      → slice_get roles place ≡ Some (get_or roles place r)
  place_at v d stand place r is = slice_get-get_or roles place r is.within

  abbrev pub next_of : (v : PortValue) (d : DeskState) (stand : Stand) (left : List (List ModemCall))
      (items : List PinStep)
      (place : ℕ) (r : Role) (call : ModemCall)
      → IsBetween f roles v d stand left items
      → slice_get roles place ≡ Some r
      → slice_get (left_at left place) 0 ≡ Some call
      → IsNextOf f roles d place call
  next_of v d stand left items place r call h at is =
      let c = r.number in
      let rest = after_next (left_at left place) in
      let within = left_within left place call is in
      let mine = h.calls.each place r at within in
      let own : IsLeftTo p k (block_phases f.session) (modem_call_at p f.session) d.next c (call ∷ rest) =
      subst (λ (cs : List ModemCall). IsLeftTo p k (block_phases f.session) (modem_call_at p f.session) d.next c cs)
      (head_of (left_at left place) call is) mine in
      let count : step_of d c + suc (length rest) ≡ begin_of p (block_phases f.session) (k + 1) c = own.count in
      let few : step_of d c + suc (length rest) ≤ MOST_STEPS = own.few in
      let here : step_of d c + 0 ≡ step_of d c = omega arith in
      record {
        role = r;
        at_place = at;
        known = own.known;
        few = omega (arith, few);
        has = ap (λ (n : ℕ). modem_call_at p f.session c n) (sym here) ∙ own.each 0 (omega arith);
        in_phase =
            next_is_left p f.session k c d.next (left_at left place) h.at.next_of_all
            (h.calls.callers place r at within) mine ∙ is;
        is_caller = h.calls.callers place r at within;
        from = own.from;
        to = omega (arith, count);
      }

  -- ---- behind a turn

  pub between_turn : (old new : PortValue) (d : DeskState) (was now : Stand) (left : List (List ModemCall))
      (items : List PinStep)
      → IsBetween f roles old d was left items
      → TakesNoCall f roles old new d now
      → IsBetween f roles new d now left items
  between_turn old new d was now left items h t = record {
    at = t.at;
    frame = h.frame;
    calls = h.calls;
    items_are = h.items_are;
    over = λ i r at over. h.over i r at (t.over r.number over);
    carrier_over = λ over. h.carrier_over (t.over carrier over);
  }

  pub less_turn : (old new : PortValue) (left : List (List ModemCall)) (items : List PinStep)
      → HasGone false old new
      → turns_left new left items < turns_left old left items
  less_turn old new left items gone = omega (arith, gone.0, gone.1)

  -- what is left behind a call
  abbrev pub left_then : Bool → List (List ModemCall) → (place : ℕ) → List (List ModemCall)
  left_then answered left place = if answered then slice_set left place (after_next (left_at left place)) else left

  pub by_answer : (answered : Bool) (old new : PortValue) (d x : DeskState) (was now : Stand)
      (left : List (List ModemCall)) (items : List PinStep) (place : ℕ) (r : Role) (call : ModemCall)
      → IsBetween f roles old d was left items
      → slice_get roles place ≡ Some r
      → slice_get (left_at left place) 0 ≡ Some call
      → TakesCall f roles place old new d x (record { answered = answered; stand = now })
      → IsBetween f roles new x now (left_then answered left place) items
  by_answer true old new d x was now left items place r call h at is t =
      let a = t.desk r at in
      let head = head_of (left_at left place) call is in
      record {
        at = t.at;
        frame = h.frame;
        calls = subst (λ (ns : List ℕ). AreCallsLeft p k f.session roles ns
            (slice_set left place (after_next (left_at left place)))) (sym a.next)
            (left_passed p k f.session roles d.next left place r call (after_next (left_at left place)) h.calls at
            (left_within left place call is) (apart_at old d was h.at place r at) head);
        items_are = subst (λ (n : ℕ). AreItemsLeft p k f.session n items) (sym a.items) h.items_are;
        over = λ i q q_at over. elim (cases_eq i place) [
          | inl same ↦
              let none : left_at left place ≡ [] =
              ap (λ (j : ℕ). left_at left j) (sym same) ∙ h.over i q q_at (t.over q.number over) in
              absurd (omega (arith, ap (λ (cs : List ModemCall). length cs) (sym none ∙ head)))
          | inr other ↦
              get_or-set_other left place i (after_next (left_at left place)) [] other
              ∙ h.over i q q_at (t.over q.number over)
        ];
        carrier_over = λ over. h.carrier_over (t.over carrier over);
      }
  by_answer false old new d x was now left items place r call h at is t =
      let a = t.desk r at in
      record {
        at = t.at;
        frame = h.frame;
        calls = subst (λ (ns : List ℕ). AreCallsLeft p k f.session roles ns left) (sym a.next) h.calls;
        items_are = subst (λ (n : ℕ). AreItemsLeft p k f.session n items) (sym a.items) h.items_are;
        over = λ i q q_at over. h.over i q q_at (t.over q.number over);
        carrier_over = λ over. h.carrier_over (t.over carrier over);
      }

  pub between_call : (old new : PortValue) (d x : DeskState) (was : Stand) (left behind : List (List ModemCall))
      (items : List PinStep) (place : ℕ) (r : Role) (call : ModemCall) (taken : Taken)
      → IsBetween f roles old d was left items
      → slice_get roles place ≡ Some r
      → slice_get (left_at left place) 0 ≡ Some call
      → TakesCall f roles place old new d x taken
      → behind ≡ left_then taken.answered left place
      → IsBetween f roles new x taken.stand behind items
  between_call old new d x was left behind items place r call taken h at is t same =
      subst (λ (ls : List (List ModemCall)). IsBetween f roles new x taken.stand ls items) (sym same)
      (by_answer taken.answered old new d x was taken.stand left items place r call h at is t)

  pub less_by_answer : (answered : Bool) (old new : PortValue) (left : List (List ModemCall)) (items : List PinStep)
      (place : ℕ) (call : ModemCall)
      → slice_get (left_at left place) 0 ≡ Some call
      → HasGone answered old new
      → turns_left new (left_then answered left place) items < turns_left old left items
  less_by_answer true old new left items place call is gone =
      omega
      (arith, gone, count_set left place call (after_next (left_at left place)) (head_of (left_at left place) call is))
  less_by_answer false old new left items place call is gone = omega (arith, gone.0, gone.1)

  pub less_call : (old new : PortValue) (d x : DeskState) (left behind : List (List ModemCall)) (items : List PinStep)
      (place : ℕ) (call : ModemCall) (taken : Taken)
      → slice_get (left_at left place) 0 ≡ Some call
      → TakesCall f roles place old new d x taken
      → behind ≡ left_then taken.answered left place
      → turns_left new behind items < turns_left old left items
  less_call old new d x left behind items place call taken is t same =
      subst (λ (ls : List (List ModemCall)). turns_left new ls items < turns_left old left items) (sym same)
      (less_by_answer taken.answered old new left items place call is t.gone)
