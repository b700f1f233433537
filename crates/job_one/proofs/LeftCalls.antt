-- What callers have still to call, turn by turn.
use Rattle.std.proofs.Common.{◌≡◌, ◌≤◌, ◌<◌, ◌⊎◌, inl, inr, ℕ, zero, suc, ◌+◌, Bool, true}
use Rattle.std.proofs.Common.{false, List, [], ◌∷◌, ◌++◌, None, Some, length, get_or}
use Rattle.std.proofs.Common.{if◌then◌else◌, refl, sym, ap, ◌∙◌, subst, arith, length-append}
use Rattle.std.specs.Prelude.{All, slice_get, slice_index_or, slice_set, sum}
use Rattle.std.proofs.lemmas.Bool.{cases_eq, false≢true, ne_eqb}
use Rattle.std.proofs.lemmas.List.{get_or-set_same, get_or-set_other, length-map, length-set}
use Rattle.std.proofs.lemmas.Option.{same_Some, slice_get-get_or, slice_get_within}
use Rattle.tty_base.specs.Sizes.{MOST_STEPS}
use Rattle.tty_base.specs.declared.characters.Flagged.{Flagged}
use Rattle.word_ring.specs.Ends.{PutterState}
use Rattle.tty_base.specs.declared.counters.Signal.{Signal}
use Rattle.tty_calls.specs.Plain.{PlainEntry, is_caller}
use Rattle.tty_terminal.specs.Terminals.{caller_at}
use Rattle.port_core.specs.Ports.{PortValue, IsPort, IsOpen, end_entry}
use Rattle.legal_runs.specs.Order.{is_of_consoles}
use Rattle.play_base.specs.Scenes.{HasAnyOrder}
use Rattle.one_thread.specs.Turns.{role_numbers, IsAbsent, PlaysOnIn}
use Rattle.one_thread.specs.Acts.{AddsEntry, EndsCalls, InLast, PlaysEnd, PlaysLast}
use Rattle.play_base.specs.declared.roles.Role.{Role}
use Rattle.one_thread.specs.declared.after_line.Stand.{Stand}
use Rattle.one_thread.specs.declared.after_line.Turn.TheVariants as turn
use Rattle.one_thread.proofs.AfterLine.{all_known, nothing_left}
use Rattle.one_thread.proofs.Calling.{role_number, same_place}
use Rattle.one_thread.proofs.Possible.{by_rank}
use Rattle.one_thread.proofs.Ready.{is_place}
use Rattle.job_text.specs.Sessions.{JobCall, JobsSession}
use Rattle.job_steps.specs.Derived.{block_phases, job_call_at}
use Rattle.order_laws.specs.Passed.{begin_of}
use Rattle.order_laws.specs.Witness.{scene_on}
use Rattle.job_one.specs.Events.{DeskState}
use Rattle.job_one.specs.Between.{value_at}
use Rattle.order_laws.specs.Begun.{begun_at}
use Rattle.job_one.specs.Playing.{passings_with}
use Rattle.job_one.specs.Frames.{Frame, IsAtTurn, IsNextTurn}
use Rattle.job_one.specs.AfterLine.{HasProcs, BeginsTurns, EndsTurns}
use Rattle.calls_left.specs.Remaining.{left_at, after_next, IsLeftTo}
use Rattle.job_one.specs.Remaining.{AreLeft}
use Rattle.order_laws.specs.Begun.{WereOver}
use Rattle.order_laws.specs.Left.{HasGone}
use Rattle.job_one.specs.Taken.{Advances, TakesNoCall, TakesCall}
use Rattle.order_laws.specs.Left.{count_left, turns_left}
use Rattle.job_one.specs.Taken.{IsNextOf, IsBetweenTurns}
use Rattle.job_one.specs.declared.turns.Taken.{Taken}
use Rattle.job_one.proofs.Along.{same_kept}
use Rattle.order_laws.proofs.Steps.{step_own, step_other}
use Rattle.job_one.proofs.NextCalls.{plays_it, rests_last}
use Rattle.order_laws.proofs.Overs.{over_other}
use Rattle.job_one.proofs.Phasing.{signals_stay}
use Rattle.job_one.proofs.Turning.{last_goes_on}
use Rattle.order_laws.proofs.InOrders.{same_entry}
use Rattle.order_laws.proofs.Witnessed.{in_last}

-- ---- lists

none_some : {X : Type 0} (x : X) → None ≡ Some x → ⊥
none_some x e = absurd (cc)

pub head_of : (a : List JobCall) (call : JobCall) → slice_get a 0 ≡ Some call → a ≡ call ∷ after_next a
head_of [] call e = absurd (none_some call e)
head_of (x ∷ a) call e = ap (λ (y : JobCall). y ∷ a) (same_Some x call e)

count_set : (left : List (List JobCall)) (i : ℕ) (call : JobCall) (rest : List JobCall)
    → left_at left i ≡ call ∷ rest
    → count_left (slice_set left i rest) + 1 ≡ count_left left
count_set [] i call rest is = absurd (cc)
count_set (calls ∷ left) zero call rest is = omega (arith, ap (λ (cs : List JobCall). length cs) is)
count_set (calls ∷ left) (suc i) call rest is = omega (arith, count_set left i call rest is)

-- ---- the desk

if_length : (b : Bool) (xs ys : List ℕ) (n : ℕ) → length xs ≡ n → length ys ≡ n → length (if b then xs else ys) ≡ n
if_length true xs ys n h k = h
if_length false xs ys n h k = k

pub procs_then : (p : ℕ) (session : JobsSession) (answered : Bool) (c : ℕ) (d x : DeskState)
    → HasProcs p session d
    → Advances answered c d x
    → HasProcs p session x
procs_then p session answered c d x h a = record {
  callers = ap (λ (cs : List ℕ). length cs) a.callers ∙ h.callers;
  next =
      ap (λ (ns : List ℕ). length ns) a.next
      ∙ (if_length answered _ d.next (length d.next) (length-set d.next c (slice_index_or d.next c 0 + 1)) refl
      ∙ h.next);
  each = λ q lt.
      ap (λ (cs : List ℕ). slice_index_or cs q 0) a.callers
      ∙ h.each q (subst (λ (cs : List ℕ). q < length cs) a.callers lt);
  known = λ q lt. omega (
    arith,
    h.known q (subst (λ (cs : List ℕ). q < length cs) a.callers lt),
    ap (λ (cs : List ℕ). slice_index_or cs q 0) a.callers,
    ap (λ ps. length ps) a.procs,
  );
}

-- ---- a call was made

module _ (p k : ℕ) (session : JobsSession) (next : List ℕ) (c : ℕ) where
  abbrev late : List ℕ
  late = slice_set next c (slice_index_or next c 0 + 1)

  long : length late ≡ length next
  long = length-set next c (slice_index_or next c 0 + 1)

  own_then : (call : JobCall) (rest : List JobCall)
      → IsLeftTo p k (block_phases session) (job_call_at p session) next c (call ∷ rest)
      → IsLeftTo p k (block_phases session) (job_call_at p session) late c rest
  own_then call rest h =
      let step : slice_index_or late c 0 ≡ slice_index_or next c 0 + 1 =
      step_own next c (slice_index_or next c 0 + 1) h.known in
      let count : slice_index_or next c 0 + suc (length rest) ≡ begin_of p (block_phases session) (k + 1) c = h.count in
      let few : slice_index_or next c 0 + suc (length rest) ≤ MOST_STEPS = h.few in
      record {
        known = omega (arith, h.known, long);
        from = omega (arith, h.from, step);
        count = omega (arith, count, step);
        each = λ i lt.
            let at : slice_index_or late c 0 + i ≡ slice_index_or next c 0 + suc i = omega (arith, step) in
            ap (λ (n : ℕ). job_call_at p session c n) at ∙ h.each (suc i) (omega (arith, lt));
        few = omega (arith, few, step);
      }

  other_then : (x : ℕ) (calls : List JobCall)
      → (x ≡ c → ⊥)
      → IsLeftTo p k (block_phases session) (job_call_at p session) next x calls
      → IsLeftTo p k (block_phases session) (job_call_at p session) late x calls
  other_then x calls other h =
      let step : slice_index_or late x 0 ≡ slice_index_or next x 0 =
      step_other next c x (slice_index_or next c 0 + 1) other in
      record {
        known = omega (arith, h.known, long);
        from = omega (arith, h.from, step);
        count = omega (arith, h.count, step);
        each = λ i lt. ap (λ (n : ℕ). job_call_at p session x (n + i)) step ∙ h.each i lt;
        few = omega (arith, h.few, step);
      }

pub left_passed : (p k : ℕ) (session : JobsSession) (roles : List Role) (next : List ℕ) (left : List (List JobCall))
    (place : ℕ) (r : Role) (call : JobCall) (rest : List JobCall)
    → AreLeft p k session roles next left
    → slice_get roles place ≡ Some r
    → ((i : ℕ) (q : Role) → slice_get roles i ≡ Some q → q.number ≡ r.number → i ≡ place)
    → left_at left place ≡ call ∷ rest
    → AreLeft p k session roles (slice_set next r.number (slice_index_or next r.number 0 + 1))
    (slice_set left place rest)
left_passed p k session roles next left place r call rest h at apart is =
    let c = r.number in
    let later = slice_set next c (slice_index_or next c 0 + 1) in
    let within : place < length left = omega (arith, slice_get_within roles place r at, h.many) in
    let here : IsLeftTo p k (block_phases session) (job_call_at p session) later c
    (left_at (slice_set left place rest) place) =
    subst (λ (cs : List JobCall). IsLeftTo p k (block_phases session) (job_call_at p session) later c cs)
    (sym (get_or-set_same left place rest [] within))
    (own_then p k session next c call rest
    (subst (λ (cs : List JobCall). IsLeftTo p k (block_phases session) (job_call_at p session) next c cs) is
    (h.each place r at))) in
    record {
      many = length-set left place rest ∙ h.many;
      each = λ i q q_at. elim (cases_eq i place) [
        | inl same ↦
            let q_is : r ≡ q = same_Some r q (sym at ∙ (ap (λ (j : ℕ). slice_get roles j) (sym same) ∙ q_at)) in
            subst (λ (j : ℕ). IsLeftTo p k (block_phases session) (job_call_at p session) later q.number
            (left_at (slice_set left place rest) j)) (sym same)
            (subst (λ (z : Role). IsLeftTo p k (block_phases session) (job_call_at p session) later z.number
            (left_at (slice_set left place rest) place))
            q_is here)
        | inr other ↦
            subst (λ (cs : List JobCall). IsLeftTo p k (block_phases session) (job_call_at p session) later q.number cs)
            (sym (get_or-set_other left place i rest [] other))
            (other_then p k session next c q.number (left_at left i) (λ e. other (apart i q q_at e)) (h.each i q q_at))
      ];
      others = λ x absent.
          step_other next c x (slice_index_or next c 0 + 1) (λ e. absent place r at (sym e)) ∙ h.others x absent;
    }

-- ---- between two turns

module _ (f : Frame) (roles : List Role) where
  abbrev p : ℕ
  p = f.first.port

  abbrev k : ℕ
  k = f.start.terminal.phase

  -- no caller has two roles
  apart_at : (v : PortValue) (d : DeskState) (stand : Stand)
      → IsAtTurn f roles v d stand
      → (place : ℕ) (r : Role)
      → slice_get roles place ≡ Some r
      → (i : ℕ) (q : Role)
      → slice_get roles i ≡ Some q
      → q.number ≡ r.number
      → i ≡ place
  apart_at v d stand h place r at i q q_at same =
      let plays = plays_it f roles v d stand [] h in
      same_place (scene_on p h.playing.playing.has.session) v.terminal.phase
      (f.scripts (scene_on p h.playing.playing.has.session)) roles i place plays.callers.are_roles
      (slice_get_within roles i q q_at) (slice_get_within roles place r at)
      (role_number roles i q q_at ∙ (same ∙ sym (role_number roles place r at)))

  pub begins_between : (v : PortValue) (d : DeskState) (stand : Stand) (left : List (List JobCall))
      → BeginsTurns f roles v d stand left
      → IsBetweenTurns f roles v d stand left
  begins_between v d stand left h = record {
    at = h.at;
    frame = h.frame;
    procs = h.procs;
    calls = h.calls;
    over = λ i r at over. absurd (false≢true (sym (h.none_over r.number) ∙ over));
  }

  pub known_at : (v : PortValue) (d : DeskState) (stand : Stand) (left : List (List JobCall))
      → IsBetweenTurns f roles v d stand left
      → All (λ (r : Role). r.number < sum v.counts) roles
  known_at v d stand left h =
      all_known (scene_on p h.at.playing.playing.has.session) (f.scripts (scene_on p h.at.playing.playing.has.session))
      roles v stand (plays_it f roles v d stand [] h.at)

  pub going_at : (v : PortValue) (d : DeskState) (stand : Stand) (left : List (List JobCall))
      → IsBetweenTurns f roles v d stand left
      → (i : ℕ)
      → stand.going ≡ Some i
      → i < length roles
  going_at v d stand left h i is = ((plays_it f roles v d stand [] h.at).callers.goes_on i is).0

  -- the caller at the place whose turn it is
  pub place_at : (v : PortValue) (stand : Stand) (place : ℕ) (d : Role)
      → IsNextTurn f roles v stand (turn.Call place)
      → slice_get roles place ≡ Some (get_or roles place d)
  place_at v stand place d is = slice_get-get_or roles place d
      (is_place v roles stand.going place
      (by_rank (is_of_consoles f.first.session) v (role_numbers roles) stand.going (turn.Call place) is))

  pub next_of : (v : PortValue) (d : DeskState) (stand : Stand) (left : List (List JobCall)) (place : ℕ) (r : Role)
      (call : JobCall)
      → IsBetweenTurns f roles v d stand left
      → slice_get roles place ≡ Some r
      → slice_get (left_at left place) 0 ≡ Some call
      → IsNextOf f roles d place call
  next_of v d stand left place r call h at is =
      let c = r.number in
      let rest = after_next (left_at left place) in
      let own : IsLeftTo p k (block_phases f.session) (job_call_at p f.session) d.next c (call ∷ rest) =
      subst (λ (cs : List JobCall). IsLeftTo p k (block_phases f.session) (job_call_at p f.session) d.next c cs)
      (head_of (left_at left place) call is)
      (h.calls.each place r at) in
      let count : slice_index_or d.next c 0 + suc (length rest) ≡ begin_of p (block_phases f.session) (k + 1) c =
      own.count in
      let few : slice_index_or d.next c 0 + suc (length rest) ≤ MOST_STEPS = own.few in
      let caller : c < length d.callers = omega (arith, own.known, h.procs.next, h.procs.callers) in
      let here : slice_index_or d.next c 0 + 0 ≡ slice_index_or d.next c 0 = omega arith in
      record {
        role = r;
        at_place = at;
        known = own.known;
        few = omega (arith, few);
        caller = caller;
        proc = h.procs.each c caller;
        exists = h.procs.known c caller;
        has = ap (λ (n : ℕ). job_call_at p f.session c n) (sym here) ∙ own.each 0 (omega arith);
        from = own.from;
        to = omega (arith, count);
      }

  pub between_turn : (old new : PortValue) (d x : DeskState) (was now : Stand) (left : List (List JobCall))
      → IsBetweenTurns f roles old d was left
      → TakesNoCall f roles old new d x now
      → IsBetweenTurns f roles new x now left
  between_turn old new d x was now left h t = record {
    at = t.at;
    frame = h.frame;
    procs = procs_then p f.session false 0 d x h.procs t.desk;
    calls = subst (λ (ns : List ℕ). AreLeft p k f.session roles ns left) (sym t.desk.next) h.calls;
    over = λ i r at over. h.over i r at (t.over r.number over);
  }

  pub less_turn : (old new : PortValue) (left : List (List JobCall))
      → HasGone false old new
      → turns_left new left < turns_left old left
  less_turn old new left gone = omega (arith, gone.0, gone.1)

  -- what is left behind a call
  abbrev pub left_then : Bool → List (List JobCall) → (place : ℕ) → List (List JobCall)
  left_then answered left place = if answered then slice_set left place (after_next (left_at left place)) else left

  by_answer : (answered : Bool) (old new : PortValue) (d x : DeskState) (was now : Stand) (left : List (List JobCall))
      (place : ℕ) (r : Role) (call : JobCall)
      → IsBetweenTurns f roles old d was left
      → slice_get roles place ≡ Some r
      → slice_get (left_at left place) 0 ≡ Some call
      → TakesCall f roles place old new d x (record { answered = answered; stand = now })
      → IsBetweenTurns f roles new x now (left_then answered left place)
  by_answer true old new d x was now left place r call h at is t =
      let a = t.desk r at in
      let head = head_of (left_at left place) call is in
      record {
        at = t.at;
        frame = h.frame;
        procs = procs_then p f.session true r.number d x h.procs a;
        calls = subst
            (λ (ns : List ℕ). AreLeft p k f.session roles ns (slice_set left place (after_next (left_at left place))))
            (sym a.next)
            (left_passed p k f.session roles d.next left place r call (after_next (left_at left place)) h.calls at
            (apart_at old d was h.at place r at) head);
        over = λ i q q_at over. elim (cases_eq i place) [
          | inl same ↦
              let none : left_at left place ≡ [] =
              ap (λ (j : ℕ). left_at left j) (sym same) ∙ h.over i q q_at (t.over q.number over) in
              absurd (omega (arith, ap (λ (cs : List JobCall). length cs) (sym none ∙ head)))
          | inr other ↦
              get_or-set_other left place i (after_next (left_at left place)) [] other
              ∙ h.over i q q_at (t.over q.number over)
        ];
      }
  by_answer false old new d x was now left place r call h at is t =
      let a = t.desk r at in
      record {
        at = t.at;
        frame = h.frame;
        procs = procs_then p f.session false r.number d x h.procs a;
        calls = subst (λ (ns : List ℕ). AreLeft p k f.session roles ns left) (sym a.next) h.calls;
        over = λ i q q_at over. h.over i q q_at (t.over q.number over);
      }

  pub between_call : (old new : PortValue) (d x : DeskState) (was : Stand) (left behind : List (List JobCall))
      (place : ℕ) (r : Role) (call : JobCall) (taken : Taken)
      → IsBetweenTurns f roles old d was left
      → slice_get roles place ≡ Some r
      → slice_get (left_at left place) 0 ≡ Some call
      → TakesCall f roles place old new d x taken
      → behind ≡ left_then taken.answered left place
      → IsBetweenTurns f roles new x taken.stand behind
  between_call old new d x was left behind place r call taken h at is t same =
      subst (λ (ls : List (List JobCall)). IsBetweenTurns f roles new x taken.stand ls) (sym same)
      (by_answer taken.answered old new d x was taken.stand left place r call h at is t)

  less_by_answer : (answered : Bool) (old new : PortValue) (left : List (List JobCall)) (place : ℕ) (call : JobCall)
      → slice_get (left_at left place) 0 ≡ Some call
      → HasGone answered old new
      → turns_left new (left_then answered left place) < turns_left old left
  less_by_answer true old new left place call is gone =
      omega
      (arith, gone, count_set left place call (after_next (left_at left place)) (head_of (left_at left place) call is))
  less_by_answer false old new left place call is gone = omega (arith, gone.0, gone.1)

  pub less_call : (old new : PortValue) (d x : DeskState) (left behind : List (List JobCall)) (place : ℕ)
      (call : JobCall) (taken : Taken)
      → slice_get (left_at left place) 0 ≡ Some call
      → TakesCall f roles place old new d x taken
      → behind ≡ left_then taken.answered left place
      → turns_left new behind < turns_left old left
  less_call old new d x left behind place call taken is t same =
      subst (λ (ls : List (List JobCall)). turns_left new ls < turns_left old left) (sym same)
      (less_by_answer taken.answered old new left place call is t.gone)

  -- ---- the end of a caller's calls

  rests_here : (v : PortValue) (d : DeskState) (stand : Stand) (left : List (List JobCall)) (place : ℕ) (r : Role)
      → IsBetweenTurns f roles v d stand left
      → slice_get roles place ≡ Some r
      → left_at left place ≡ []
      → begun_at v r.number ≡ false
  rests_here v d stand left place r h at none =
      let own : IsLeftTo p k (block_phases f.session) (job_call_at p f.session) d.next r.number [] =
      subst (λ (cs : List JobCall). IsLeftTo p k (block_phases f.session) (job_call_at p f.session) d.next r.number cs)
      none (h.calls.each place r at) in
      let count : slice_index_or d.next r.number 0 + 0 ≡ begin_of p (block_phases f.session) (k + 1) r.number =
      own.count in
      rests_last f roles v d stand r.number h.at (omega (arith, count))

  pub in_last_at : (v : PortValue) (d : DeskState) (stand : Stand) (left : List (List JobCall)) (place : ℕ) (r : Role)
      → IsBetweenTurns f roles v d stand left
      → IsNextTurn f roles v stand (turn.Call place)
      → slice_get roles place ≡ Some r
      → left_at left place ≡ []
      → InLast roles v stand place
  in_last_at v d stand left place r h is at none =
      in_last f.first (block_phases f.session) f.scripts roles f.start
      (passings_with f.session d.log p (value_at d) (begun_at v)) v f.ticks stand place r h.at.playing.playing is at
      (rests_here v d stand left place r h at none)

  module _ (old new : PortValue) (d : DeskState) (was now : Stand) (left : List (List JobCall)) (place : ℕ) (r : Role)
      (h : IsBetweenTurns f roles old d was left) (is : IsNextTurn f roles old was (turn.Call place))
      (at : slice_get roles place ≡ Some r) (none : left_at left place ≡ []) (ends : EndsCalls roles old new place)
      (plays : PlaysLast roles old new was now place) where
    in_it : InLast roles old was place
    in_it = in_last_at old d was left place r h is at none

    abbrev on : PlaysOnIn HasAnyOrder in_it.in_turn.scene in_it.in_turn.scripts roles old new was now
    on = (plays.each in_it).on

    added : new.journal ≡ old.journal ++ end_entry old ends.role.number ∷ []
    added = ap (λ (v : PortValue). v.journal) ends.appends.appended

    entry_is : on.adds.entry ≡ end_entry old ends.role.number
    entry_is = same_entry old.journal on.adds.entry (end_entry old ends.role.number) (sym on.adds.added ∙ added)

    role_is : ends.role ≡ r
    role_is = same_Some ends.role r (sym ends.at_place ∙ at)

    goes_on : IsPort old → IsPort new → IsAtTurn f roles new d now
    goes_on port later = record {
      number = h.at.number;
      playing = last_goes_on f.first f.session f.scripts roles f.start d.log old new (value_at d) f.ticks was now place
          r h.at.playing refl is at (rests_here old d was left place r h at none) ends plays;
      all_sent = subst (λ (ss : List Signal). length ss ≤ d.sent)
          (sym (signals_stay old new (end_entry old ends.role.number) port later
          (record {
            added = added;
            grows = same_kept old new (ap (λ (v : PortValue). v.kept) ends.appends.appended);
            counts = on.plays.of_scene.counts ∙ sym in_it.in_turn.plays.of_scene.counts;
            capacity = on.plays.of_scene.capacity ∙ sym in_it.in_turn.plays.of_scene.capacity;
          }) refl)) h.at.all_sent;
    }

    over_elsewhere : (c : ℕ) → (c ≡ r.number → ⊥) → WereOver old new c
    over_elsewhere c other =
        over_other in_it.in_turn.scene old new on.adds c
        (ap (λ (e : PlainEntry). is_caller e.who c) entry_is
        ∙ (ap (λ (q : Role). is_caller (end_entry old q.number).who c) role_is
        ∙ ne_eqb r.number c (λ e. other (sym e))))

    pub between_last : IsPort old → IsPort new → IsBetweenTurns f roles new d now left
    between_last port later = record {
      at = goes_on port later;
      frame = h.frame;
      procs = h.procs;
      calls = h.calls;
      over = λ i q q_at over. elim (cases_eq q.number r.number) [
        | inl same ↦ ap (λ (j : ℕ). left_at left j) (apart_at old d was h.at place r at i q q_at same) ∙ none
        | inr other ↦ h.over i q q_at (over_elsewhere q.number other over)
      ];
    }

    pub less_last : IsOpen old → turns_left new left < turns_left old left
    less_last room =
        less_turn old new left (
          omega (arith, room.0, in_it.in_turn.plays.of_scene.limit),
          ap (λ (es : List PlainEntry). length es) added
              ∙ length-append old.journal (end_entry old ends.role.number ∷ []),
        )

  -- ---- the end of the phase

  -- a caller of the phase, or none
  record HasRole (c : ℕ) (rs : List Role) : Type 0 where
    place : ℕ
    role : Role
    at_place : slice_get rs place ≡ Some role
    is : role.number ≡ c

  no_role : (c i : ℕ) (r : Role) → slice_get [] i ≡ Some r → ⊥
  no_role c i r e = absurd (cc)

  role_or_none : (c : ℕ) (rs : List Role) → HasRole c rs ⊎ IsAbsent rs c
  role_or_none c [] = inr (λ i r at is. no_role c i r at)
  role_or_none c (q ∷ rs) = elim (cases_eq q.number c) [
    | inl same ↦ inl (record { place = 0; role = q; at_place = refl; is = same })
    | inr other ↦ elim (role_or_none c rs) [
      | inl h ↦ inl (record { place = suc h.place; role = h.role; at_place = h.at_place; is = h.is })
      | inr absent ↦ inr (absent_more c q rs other absent)
    ]
  ]
    where
      absent_more : (c : ℕ) (q : Role) (rs : List Role) → (q.number ≡ c → ⊥) → IsAbsent rs c → IsAbsent (q ∷ rs) c
      absent_more c q rs other absent zero r at is = other (ap (λ (x : Role). x.number) (same_Some q r at) ∙ is)
      absent_more c q rs other absent (suc i) r at is = absent i r at is

  steps_at : (v : PortValue) (d : DeskState) (stand : Stand) (left : List (List JobCall))
      → IsBetweenTurns f roles v d stand left
      → IsNextTurn f roles v stand turn.End
      → (c : ℕ)
      → slice_index_or d.next c 0 ≡ begin_of p (block_phases f.session) (k + 1) c
  steps_at v d stand left h is c = elim (role_or_none c roles) [
    | inl q ↦
        let over = over_of q.place q.role q.at_place in
        let own : IsLeftTo p k (block_phases f.session) (job_call_at p f.session) d.next q.role.number [] =
        subst (λ (cs : List JobCall). IsLeftTo p k (block_phases f.session) (job_call_at p f.session) d.next
        q.role.number cs)
        (h.over q.place q.role q.at_place over) (h.calls.each q.place q.role q.at_place) in
        let count : slice_index_or d.next q.role.number 0 + 0
        ≡ begin_of p (block_phases f.session) (k + 1) q.role.number = own.count in
        subst (λ (n : ℕ). slice_index_or d.next n 0 ≡ begin_of p (block_phases f.session) (k + 1) n) q.is
        (omega (arith, count))
    | inr absent ↦ h.calls.others c absent
  ]
    where
      over_of : (i : ℕ) (r : Role) → slice_get roles i ≡ Some r → (caller_at v.terminal r.number).over ≡ true
      over_of i r at =
          subst (λ (n : ℕ). (caller_at v.terminal n).over ≡ true) (role_number roles i r at)
          ((nothing_left v roles stand.going
          (by_rank (is_of_consoles f.first.session) v (role_numbers roles) stand.going turn.End is)).over i
          (omega (arith, slice_get_within roles i r at, length-map roles (λ (x : Role). x.number))))

  pub ends_turns : (v new : PortValue) (putter now : PutterState Flagged) (d : DeskState) (stand : Stand)
      (left : List (List JobCall)) (run : ℕ)
      → IsBetweenTurns f roles v d stand left
      → IsNextTurn f roles v stand turn.End
      → PlaysEnd roles v new putter now stand run
      → AddsEntry v new
      → IsPort v
      → IsPort new
      → EndsTurns f roles new putter now d run
  ends_turns v new putter now d stand left run h is ends adds port later = record {
    last = v;
    stand = stand;
    at = h.at;
    is_end = is;
    ends = ends;
    adds = adds;
    was_port = port;
    is_port = later;
    procs = h.procs;
    steps = steps_at v d stand left h is;
  }
