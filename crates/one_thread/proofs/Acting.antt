-- Entries of a caller: an answer, a part, a wait, and the end of its calls.
use Rattle.std.proofs.Common.{◌≡◌, ◌≤◌, ◌<◌, ℕ, ◌+◌, ◌-◌, zero, suc, List, [], Bool, true, false, ◌==◌, Option}
use Rattle.std.proofs.Common.{None, Some, is_some, if◌then◌else◌, length, map, refl, sym, ◌∙◌, ap, subst, arith}
use Rattle.std.specs.Prelude.{slice_index, slice_get, MatchBool}
use Rattle.std.proofs.lemmas.Option.{slice_get_within, same_Some}
use Rattle.std.proofs.lemmas.Bool.{false≢true, eqb-true, eq-eqb}
use Rattle.std.proofs.lemmas.Bool.Decides.{nat_tests}
use Rattle.tty_base.specs.declared.characters.Flagged.{Flagged}
use Rattle.word_ring.specs.Ends.{TakerState}
use Rattle.tty_calls.specs.declared.sessions.Script.{Script}
use Rattle.tty_calls.specs.declared.journals.Who.{Who}
use Rattle.tty_calls.specs.declared.journals.Who.TheVariants.{Caller}
use Rattle.tty_calls.specs.Plain.{is_caller, PlainCall, PlainAnswer, answered, parted, waited, PlainEntry}
use Rattle.tty_calls.specs.Sessions.{call_at, counts_on}
use Rattle.tty_terminal.specs.Terminals.{Terminal, caller_at, has_begun}
use Rattle.tty_terminal.specs.Calls.{outcome, outcome_of}
use Rattle.tty_terminal.specs.Steps.{quiet, is_wait, TakesPart}
use Rattle.tty_terminal.specs.Runs.{is_flush}
use Rattle.tty_terminal.specs.Meeting.{drops_of}
use Rattle.tty_terminal.specs.Marks.{Marks, marks_of}
use Rattle.tty_terminal.specs.Standing.{Standing, standing_after_own, standing_after_other}
use Rattle.tty_terminal.proofs.BeginLaws.{step_generation}
use Rattle.legal_runs.specs.Legal.{IsInPhase, IsCallOf, IsCallerOf, first_step, session_events}
use Rattle.port_core.specs.Flips.{DropsShown}
use Rattle.port_core.specs.Attempts.{PlainTried, done_by, took_part, must_wait}
use Rattle.port_core.specs.Attempts.{AnswersCall, TakesPartOf, MustGoOnWaiting, Attempts}
use Rattle.port_core.specs.Ports.{PlainKept, PortValue, kept_with, with_call, Appends, caller_entry, end_entry}
use Rattle.legal_runs.specs.Order.{IsPieceOf, turn_after_event}
use Rattle.play_base.specs.Roles.{Scene, calls_in, role_in, AreRolesOf}
use Rattle.play_base.specs.Scenes.{place_of, HasAnyOrder}
use Rattle.one_thread.specs.Turns.{role_numbers, turn_with, who_of, IsPossible, standing_at, standing_at_rest, IsInRole}
use Rattle.one_thread.specs.Turns.{IsKeptCall, IsInParts, IsGoing, HasCallers, next_run, PlaysIn, TakesTurn}
use Rattle.one_thread.specs.Turns.{going_after}
use Rattle.play_base.specs.declared.roles.Role.{Role}
use Rattle.one_thread.specs.declared.after_line.Stand.{Stand}
use Rattle.one_thread.specs.declared.after_line.Turn.TheVariants as turn
use Rattle.one_thread.proofs.Entries.{IsMore, more_of, plays_more}
use Rattle.one_thread.proofs.Passing.{runs_rest, stands_at, marks_at}
use Rattle.one_thread.proofs.Kept.{kept_still, kept_own, kept_grows}
use Rattle.one_thread.proofs.Calling.{role_of, role_number, same_place, MayAct}
use Rattle.one_thread.proofs.Calling.{may_act, called, wait_test, part_generation}
use Rattle.legal_runs.proofs.Truths.{if_false, if_true}

-- ---- callers after an entry of one of them

-- what an entry of the caller of a role leaves
record Acts (s : Scene) (scripts : List Script) (roles : List Role) (v w : PortValue) (r : Role)
    (going : Option ℕ) : Type 0 where
  phase : w.terminal.phase ≡ v.terminal.phase
  same : (d : ℕ) → (r.number == d) ≡ false → standing_at w d ≡ standing_at v d
  in_role : IsInRole r.first (length (calls_in (slice_get scripts r.place))) (standing_at w r.number)
  kept : (d n : ℕ) → IsKeptCall v.kept d n → IsKeptCall w.kept d n
  own_kept : (standing_at w r.number).begun ≡ true → IsKeptCall w.kept r.number (standing_at w r.number).next
  goes_on : (i : ℕ) → going ≡ Some i → (i < length roles) × IsInParts w (slice_index (role_numbers roles) i)
  own_parts : (standing_at w r.number).waits ≡ false
      → 0 < (standing_at w r.number).parts
      → IsGoing (role_numbers roles) going r.number

by_caller : (n d : ℕ) (P : Type 0) → ((n == d) ≡ true → P) → ((n == d) ≡ false → P) → P
by_caller n d P yes_own other = cases (n == d) refl
  where
    cases : (b : Bool) → (n == d) ≡ b → P
    cases true e = yes_own e
    cases false e = other e

callers_act : (s : Scene) (scripts : List Script) (roles : List Role) (v w : PortValue) (stand : Stand) (place : ℕ)
    (r : Role) (going : Option ℕ)
    → HasCallers s scripts roles v stand.going
    → slice_get roles place ≡ Some r
    → MayAct s v r.number
    → Acts s scripts roles v w r going
    → HasCallers s scripts roles w going
callers_act s scripts roles v w stand place r going callers is may acts =
    record {
      are_roles = subst (λ (k : ℕ). AreRolesOf s k (map (role_in scripts) roles)) (sym acts.phase) callers.are_roles;
      in_roles = λ i q at.
          let Fact : Role → Type 0 = λ x.
          IsInRole x.first (length (calls_in (slice_get scripts x.place))) (standing_at w x.number) in
          by_caller r.number q.number (Fact q)
          (λ own.
          let lt = slice_get_within roles i q at in
          let lt' = slice_get_within roles place r is in
          let numbers : slice_index (role_numbers roles) place ≡ slice_index (role_numbers roles) i =
          role_number roles place r is ∙ (eqb-true r.number q.number own ∙ sym (role_number roles i q at)) in
          let places = same_place s v.terminal.phase scripts roles place i callers.are_roles lt' lt numbers in
          let same : r ≡ q = same_Some r q (sym is ∙ (ap (λ (j : ℕ). slice_get roles j) places ∙ at)) in
          subst Fact same acts.in_role)
          (λ other. subst (λ (x : Standing). IsInRole q.first (length (calls_in (slice_get scripts q.place))) x)
          (sym (acts.same q.number other)) (callers.in_roles i q at));
      kept = λ d begun.
          by_caller r.number d (IsKeptCall w.kept d (standing_at w d).next)
          (λ own.
          let Fact : ℕ → Type 0 = λ x. (standing_at w x).begun ≡ true → IsKeptCall w.kept x (standing_at w x).next in
          subst Fact (eqb-true r.number d own) acts.own_kept begun)
          (λ other.
          let same = acts.same d other in
          let old = callers.kept d (sym (ap (λ (q : Standing). q.begun) same) ∙ begun) in
          acts.kept d (standing_at w d).next
          (subst (λ (n : ℕ). IsKeptCall v.kept d n) (sym (ap (λ (q : Standing). q.next) same)) old));
      others = λ d absent.
          by_caller r.number d (standing_at w d ≡ standing_at_rest (first_step s.port s.session w.terminal.phase d))
          (λ own. absurd (absent place r is (eqb-true r.number d own)))
          (λ other.
          acts.same d other
          ∙ (callers.others d absent
          ∙ ap (λ (k : ℕ). standing_at_rest (first_step s.port s.session k d)) (sym acts.phase)));
      goes_on = acts.goes_on;
      parts = λ d waits some.
          by_caller r.number d (IsGoing (role_numbers roles) going d)
          (λ own.
          let Fact : ℕ → Type 0 = λ x.
          (standing_at w x).waits ≡ false → 0 < (standing_at w x).parts → IsGoing (role_numbers roles) going x in
          subst Fact (eqb-true r.number d own) acts.own_parts waits some)
          (λ other.
          let same = acts.same d other in
          let is_own = may.parts d (sym (ap (λ (q : Standing). q.waits) same) ∙ waits)
          (subst (λ (n : ℕ). 0 < n) (ap (λ (q : Standing). q.parts) same) some) in
          absurd (false≢true (sym other ∙ eq-eqb r.number d (sym is_own))));
    }

-- ---- each kind of entry

-- a caller that makes an entry: its role, and where it stands in it
pub record Turns (s : Scene) (scripts : List Script) (roles : List Role) (v : PortValue) (stand : Stand) (place : ℕ)
    (r : Role) : Type 0 where
  pub plays : PlaysIn HasAnyOrder s scripts roles v stand
  pub is : slice_get roles place ≡ Some r
  pub possible : IsPossible v (role_numbers roles) stand.going (turn.Call place)

pub turns_may : (s : Scene) (scripts : List Script) (roles : List Role) (v : PortValue) (stand : Stand) (place : ℕ)
    (r : Role)
    → Turns s scripts roles v stand place r
    → MayAct s v r.number
turns_may s scripts roles v stand place r h = may_act s scripts roles v stand place r h.plays h.is h.possible

-- where the caller of this role stands after its own entry, and any other
own_stands : (s : Scene) (v w : PortValue) (e : PlainEntry) (c : ℕ)
    → IsMore s v w e
    → e.who ≡ Caller c
    → standing_at w c ≡ standing_after_own e.event e.generation (standing_at v c)
own_stands s v w e c more who =
    stands_at s v w e more c ∙ if_true _ _ _ (ap (λ (x : Who). is_caller x c) who ∙ eq-eqb c c refl)

other_stands : (s : Scene) (v w : PortValue) (e : PlainEntry) (c d : ℕ)
    → IsMore s v w e
    → e.who ≡ Caller c
    → (c == d) ≡ false
    → standing_at w d ≡ standing_after_other e.event (standing_at v d)
other_stands s v w e c d more who other =
    stands_at s v w e more d ∙ if_false _ _ _ (ap (λ (x : Who). is_caller x d) who ∙ other)

-- an entry of the caller of a role keeps what the player knows
caller_more : (s : Scene) (scripts : List Script) (roles : List Role) (v w : PortValue) (stand : Stand) (place : ℕ)
    (r : Role) (going : Option ℕ) (e : PlainEntry)
    → Turns s scripts roles v stand place r
    → IsMore s v w e
    → e.who ≡ Caller r.number
    → marks_of w.terminal ≡ marks_of v.terminal
    → is_flush e.event ≡ false
    → session_events e.event ≡ []
    → IsPieceOf s.port s.session (place_of s v.journal) e.part e.event
    → IsInPhase s.port s.session v.terminal.phase e.who e.step e.event
    → Acts s scripts roles v w r going
    → ((other : Who) → turn_after_event e.event e.who other ≡ turn_with (role_numbers roles) going other)
    → TakesTurn s scripts roles v w stand
    (record { run = next_run stand.run stand.part; part = 0; ticks = stand.ticks; going = going }) (turn.Call place)
caller_more s scripts roles v w stand place r going e h more who marks no_flush inside piece phase acts settled =
    let at : slice_index (role_numbers roles) place ≡ r.number = role_number roles place r h.is in
    let by : e.who ≡ who_of (role_numbers roles) (turn.Call place) = who ∙ ap (λ (n : ℕ). Caller n) (sym at) in
    plays_more s scripts roles v w stand
    (record { run = next_run stand.run stand.part; part = 0; ticks = stand.ticks; going = going }) (turn.Call place)
    e h.plays more phase by piece inside
    (ap (λ (m : Marks). m.phase) marks) (ap (λ (m : Marks). m.line_over) marks) (ap (λ (m : Marks). m.sent) marks)
    (λ over. h.plays.clock (sym (ap (λ (m : Marks). m.clock_over) marks) ∙ over))
    (ap (λ (m : Marks). m.tick + stand.ticks) marks)
    (runs_rest v w (place_of s v.journal).before stand.run stand.part e h.plays.runs more.journal
    (ap (λ (m : Marks). m.latest) marks) no_flush)
    (callers_act s scripts roles v w stand place r going h.plays.callers h.is
    (turns_may s scripts roles v stand place r h) acts) settled

-- ---- the entries of a call

-- the call of the next step of the caller of a role
pub record Calls (s : Scene) (scripts : List Script) (roles : List Role) (v : PortValue) (stand : Stand) (place : ℕ)
    (r : Role) (call : PlainCall) : Type 0 where
  pub turns : Turns s scripts roles v stand place r
  pub next : slice_get (calls_in (slice_get scripts r.place)) ((standing_at v r.number).next - r.first) ≡ Some call

next_below : (s : Scene) (scripts : List Script) (roles : List Role) (v : PortValue) (stand : Stand) (place : ℕ)
    (r : Role) (call : PlainCall)
    → Calls s scripts roles v stand place r call
    → (standing_at v r.number).next < r.first + length (calls_in (slice_get scripts r.place))
next_below s scripts roles v stand place r call h =
    let low = (h.turns.plays.callers.in_roles place r h.turns.is).low in
    let lt =
    slice_get_within (calls_in (slice_get scripts r.place)) ((standing_at v r.number).next - r.first) call h.next in
    omega arith

in_phase : (s : Scene) (scripts : List Script) (roles : List Role) (v : PortValue) (stand : Stand) (place : ℕ)
    (r : Role)
    → Turns s scripts roles v stand place r
    → ((standing_at v r.number).next < r.first + length (calls_in (slice_get scripts r.place))
    → IsCallOf s.port s.session v.terminal.phase r.number (caller_at v.terminal r.number).next)
in_phase s scripts roles v stand place r h lt =
    let role = role_of s v.terminal.phase scripts roles place r h.plays.callers.are_roles h.is in
    let low = (h.plays.callers.in_roles place r h.is).low in
    let first = role.first in
    let count = role.count in
    (omega arith, omega arith)

is_caller_of : (s : Scene) (scripts : List Script) (roles : List Role) (v : PortValue) (stand : Stand) (place : ℕ)
    (r : Role)
    → Turns s scripts roles v stand place r
    → IsCallerOf s.port s.session v.terminal.phase r.number
is_caller_of s scripts roles v stand place r h =
    (role_of s v.terminal.phase scripts roles place r h.plays.callers.are_roles h.is).caller

-- the port keeps the call
abbrev kept_for : PortValue → ℕ → PlainCall → List PlainKept
kept_for v c call = kept_with (has_begun (caller_at v.terminal c)) v.kept c (caller_at v.terminal c).next call

call_more : (s : Scene) (scripts : List Script) (roles : List Role) (v w : PortValue) (stand : Stand) (place : ℕ)
    (r : Role) (call : PlainCall) (flip : TakerState Flagged) (e : PlainEntry)
    → Calls s scripts roles v stand place r call
    → Appends (with_call v r.number (caller_at v.terminal r.number).next call) w flip e
    → flip.capacity ≡ v.flip.capacity
    → flip.ring ≡ v.flip.ring
    → IsMore s v w e
call_more s scripts roles v w stand place r call flip e h appends capacity ring =
    let c = r.number in
    let plays = h.turns.plays in
    let is_call = called s scripts roles v stand place r call plays h.turns.is h.next in
    more_of s v w (kept_for v c call) flip e plays.of_scene.counts
    (kept_grows (has_begun (caller_at v.terminal c)) v.kept c (caller_at v.terminal c).next call
    (call_at s.port s.session) is_call plays.of_scene.known) appends capacity ring

-- what is kept by then
kept_then : (v w : PortValue) (c : ℕ) (call : PlainCall) (flip : TakerState Flagged) (e : PlainEntry)
    → Appends (with_call v c (caller_at v.terminal c).next call) w flip e
    → (d n : ℕ)
    → IsKeptCall v.kept d n
    → IsKeptCall w.kept d n
kept_then v w c call flip e appends d n h =
    subst (λ (ks : List PlainKept). IsKeptCall ks d n) (sym (ap (λ (x : PortValue). x.kept) appends.appended))
    (kept_still (has_begun (caller_at v.terminal c)) v.kept c (caller_at v.terminal c).next call d n h)

pub own_kept_then : (v w : PortValue) (c : ℕ) (call : PlainCall) (flip : TakerState Flagged) (e : PlainEntry)
    → Appends (with_call v c (caller_at v.terminal c).next call) w flip e
    → ((standing_at v c).begun ≡ true → IsKeptCall v.kept c (standing_at v c).next)
    → IsKeptCall w.kept c (standing_at v c).next
own_kept_then v w c call flip e appends h =
    subst (λ (ks : List PlainKept). IsKeptCall ks c (caller_at v.terminal c).next)
    (sym (ap (λ (x : PortValue). x.kept) appends.appended))
    (kept_own (has_begun (caller_at v.terminal c)) v.kept c (caller_at v.terminal c).next call h)

drops_flip : (b : Bool) (t : Terminal) (f g : TakerState Flagged) (dropped : List Flagged)
    → MatchBool b (DropsShown t f g dropped) ((dropped ≡ []) × (g ≡ f))
    → (g.ring ≡ f.ring) × (g.capacity ≡ f.capacity)
drops_flip true t f g dropped h = (h.takes_out.ring, h.takes_out.capacity)
drops_flip false t f g dropped h =
    (ap (λ (x : TakerState Flagged). x.ring) h.1, ap (λ (x : TakerState Flagged). x.capacity) h.1)

answered_more : (s : Scene) (scripts : List Script) (roles : List Role) (v w : PortValue) (stand : Stand) (place : ℕ)
    (r : Role) (call : PlainCall) (answer : PlainAnswer)
    → Calls s scripts roles v stand place r call
    → AnswersCall v w r.number (caller_at v.terminal r.number).next call answer
    → TakesTurn s scripts roles v w stand
    (record { run = next_run stand.run stand.part; part = 0; ticks = stand.ticks; going = None }) (turn.Call place)
answered_more s scripts roles v w stand place r call answer h a =
    let c = r.number in
    let count = length (calls_in (slice_get scripts r.place)) in
    let e : PlainEntry = caller_entry v c (answered answer a.dropped) in
    let flips = drops_flip (drops_of (outcome v.terminal (caller_at v.terminal c) call))
    v.terminal v.flip w.flip a.dropped a.drops in
    let more = call_more s scripts roles v w stand place r call w.flip e h a.appends flips.1 flips.0 in
    let own : standing_at w c
    ≡ record {
      next = (standing_at v c).next + 1;
      over = (standing_at v c).over;
      waits = false;
      parts = 0;
      taken = 0;
      generation = 0;
      begun = false;
    } = own_stands s v w e c more refl in
    let in_role = h.turns.plays.callers.in_roles place r h.turns.is in
    let low = in_role.low in
    let below = next_below s scripts roles v stand place r call h in
    let may = turns_may s scripts roles v stand place r h.turns in
    let then_in_role : IsInRole r.first count
    (record {
      next = (standing_at v c).next + 1;
      over = (standing_at v c).over;
      waits = false;
      parts = 0;
      taken = 0;
      generation = 0;
      begun = false;
    }) =
    record {
      low = omega arith;
      high = omega arith;
      calling = λ b. absurd (false≢true b);
      over = λ o. absurd (false≢true (sym may.not_over ∙ o));
      over_rest = λ o. refl;
      rest = λ b. record { waits = refl; parts = refl; taken = refl; generation = refl };
    } in
    let acts : Acts s scripts roles v w r None =
    record {
      phase = ap (λ (m : Marks). m.phase) (marks_at s v w e more);
      same = λ d other. other_stands s v w e c d more refl other;
      in_role = subst (λ (q : Standing). IsInRole r.first count q) (sym own) then_in_role;
      kept = kept_then v w c call w.flip e a.appends;
      own_kept = λ b. absurd (false≢true (sym (ap (λ (q : Standing). q.begun) own) ∙ b));
      goes_on = λ i none. absurd (cc);
      own_parts = λ waits some.
          let none : (standing_at w c).parts ≡ 0 = ap (λ (q : Standing). q.parts) own in absurd (omega arith);
    } in
    caller_more s scripts roles v w stand place r None e h.turns more refl (marks_at s v w e more) refl refl tt (
      is_caller_of s scripts roles v stand place r h.turns,
      (λ k. in_phase s scripts roles v stand place r h.turns below),
      (λ k. absurd (false≢true k)),
    ) acts (λ other. refl)

parted_more : (s : Scene) (scripts : List Script) (roles : List Role) (v w : PortValue) (stand : Stand) (place : ℕ)
    (r : Role) (call : PlainCall)
    → Calls s scripts roles v stand place r call
    → TakesPartOf v w r.number (caller_at v.terminal r.number).next call
    → TakesTurn s scripts roles v w stand
    (record { run = next_run stand.run stand.part; part = 0; ticks = stand.ticks; going = Some place })
    (turn.Call place)
parted_more s scripts roles v w stand place r call h a =
    let c = r.number in
    let count = length (calls_in (slice_get scripts r.place)) in
    let e : PlainEntry = caller_entry v c (parted a.count) in
    let more = call_more s scripts roles v w stand place r call v.flip e h a.appends refl refl in
    let q = standing_at v c in
    let generation = if q.parts == 0 then v.terminal.generation else q.generation in
    let own : standing_at w c
    ≡ record q {
      waits = false;
      parts = q.parts + 1;
      taken = q.taken + a.count;
      generation = generation;
      begun = true;
    } = own_stands s v w e c more refl in
    let in_role = h.turns.plays.callers.in_roles place r h.turns.is in
    let below = next_below s scripts roles v stand place r call h in
    let may = turns_may s scripts roles v stand place r h.turns in
    let at : slice_index (role_numbers roles) place ≡ c = role_number roles place r h.turns.is in
    let then_in_role : IsInRole r.first count
    (record q {
      waits = false;
      parts = q.parts + 1;
      taken = q.taken + a.count;
      generation = generation;
      begun = true;
    }) =
    record {
      low = in_role.low;
      high = in_role.high;
      calling = λ b. below;
      over = λ o. absurd (false≢true (sym may.not_over ∙ o));
      over_rest = λ o. absurd (false≢true (sym may.not_over ∙ o));
      rest = λ b. absurd (false≢true (sym b));
    } in
    let takes : TakesPart
    (outcome_of v.terminal (caller_at v.terminal c) (call_at s.port s.session c (caller_at v.terminal c).next))
    a.count = more.allowed.1.takes in
    let same_generation : w.terminal.generation ≡ v.terminal.generation =
    ap (λ (t : Terminal). t.generation) more.terminal
    ∙ step_generation (call_at s.port s.session) (counts_on s.port s.session) v.terminal e more.allowed in
    let of_now : generation ≡ v.terminal.generation =
    first_part q.parts v.terminal.generation q.generation
    (part_generation v.terminal (caller_at v.terminal c) (call_at s.port s.session c (caller_at v.terminal c).next)
    a.count takes) in
    let open_part : IsInParts w c =
    record {
      waits = ap (λ (x : Standing). x.waits) own;
      parts = (let up : (standing_at w c).parts ≡ q.parts + 1 = ap (λ (x : Standing). x.parts) own in omega arith);
      generation = ap (λ (x : Standing). x.generation) own ∙ (of_now ∙ sym same_generation);
    } in
    let acts : Acts s scripts roles v w r (Some place) =
    record {
      phase = ap (λ (m : Marks). m.phase) (marks_at s v w e more);
      same = λ d other. other_stands s v w e c d more refl other;
      in_role = subst (λ (x : Standing). IsInRole r.first count x) (sym own) then_in_role;
      kept = kept_then v w c call v.flip e a.appends;
      own_kept = λ b. subst (λ (n : ℕ). IsKeptCall w.kept c n) (sym (ap (λ (x : Standing). x.next) own))
          (own_kept_then v w c call v.flip e a.appends (h.turns.plays.callers.kept c));
      goes_on = λ i is.
          let same : place ≡ i = same_Some place i is in
          let Fact : ℕ → Type 0 = λ j. (j < length roles) × IsInParts w (slice_index (role_numbers roles) j) in
          subst Fact same
          (slice_get_within roles place r h.turns.is, subst (λ (n : ℕ). IsInParts w n) (sym at) open_part);
      own_parts = λ waits some. record { place = place; at_place = refl; is = at };
    } in
    let marks = marks_at s v w e more in
    caller_more s scripts roles v w stand place r (Some place) e h.turns more refl marks refl refl tt (
      is_caller_of s scripts roles v stand place r h.turns,
      (λ k. in_phase s scripts roles v stand place r h.turns below),
      (λ k. absurd (false≢true k)),
    ) acts
    (λ other. ap (λ (n : ℕ). Caller n) (sym at))
  where
    not_none : (n : ℕ) → (suc n == 0) ≡ false
    not_none n = grind (arith, nat_tests)

    first_part : (n now noted : ℕ) → (0 < n → noted ≡ now) → (if n == 0 then now else noted) ≡ now
    first_part zero now noted f = refl
    first_part (suc n) now noted f = if_false (suc n == 0) now noted (not_none n) ∙ f (omega arith)

waited_more : (s : Scene) (scripts : List Script) (roles : List Role) (v w : PortValue) (stand : Stand) (place : ℕ)
    (r : Role) (call : PlainCall)
    → Calls s scripts roles v stand place r call
    → Appends (with_call v r.number (caller_at v.terminal r.number).next call) w v.flip (caller_entry v r.number waited)
    → TakesTurn s scripts roles v w stand
    (record { run = next_run stand.run stand.part; part = 0; ticks = stand.ticks; going = None }) (turn.Call place)
waited_more s scripts roles v w stand place r call h appends =
    let c = r.number in
    let count = length (calls_in (slice_get scripts r.place)) in
    let e : PlainEntry = caller_entry v c waited in
    let more = call_more s scripts roles v w stand place r call v.flip e h appends refl refl in
    let q = standing_at v c in
    let own : standing_at w c ≡ record q { waits = true; begun = true } = own_stands s v w e c more refl in
    let in_role = h.turns.plays.callers.in_roles place r h.turns.is in
    let below = next_below s scripts roles v stand place r call h in
    let may = turns_may s scripts roles v stand place r h.turns in
    let then_in_role : IsInRole r.first count (record q { waits = true; begun = true }) =
    record {
      low = in_role.low;
      high = in_role.high;
      calling = λ b. below;
      over = λ o. absurd (false≢true (sym may.not_over ∙ o));
      over_rest = λ o. absurd (false≢true (sym may.not_over ∙ o));
      rest = λ b. absurd (false≢true (sym b));
    } in
    let acts : Acts s scripts roles v w r None =
    record {
      phase = ap (λ (m : Marks). m.phase) (marks_at s v w e more);
      same = λ d other. other_stands s v w e c d more refl other;
      in_role = subst (λ (x : Standing). IsInRole r.first count x) (sym own) then_in_role;
      kept = kept_then v w c call v.flip e appends;
      own_kept = λ b. subst (λ (n : ℕ). IsKeptCall w.kept c n) (sym (ap (λ (x : Standing). x.next) own))
          (own_kept_then v w c call v.flip e appends (h.turns.plays.callers.kept c));
      goes_on = λ i none. absurd (cc);
      own_parts = λ waits some. absurd (false≢true (sym waits ∙ ap (λ (x : Standing). x.waits) own));
    } in
    caller_more s scripts roles v w stand place r None e h.turns more refl (marks_at s v w e more) refl refl tt (
      is_caller_of s scripts roles v stand place r h.turns,
      (λ k. in_phase s scripts roles v stand place r h.turns below),
      (λ k. absurd (false≢true k)),
    ) acts (λ other. refl)

-- a call that waits in vain is told so, and does not go on waiting
must_wait_more : (s : Scene) (scripts : List Script) (roles : List Role) (v w : PortValue) (stand : Stand) (place : ℕ)
    (r : Role) (call : PlainCall)
    → Calls s scripts roles v stand place r call
    → MustGoOnWaiting v w r.number (caller_at v.terminal r.number).next call
    → TakesTurn s scripts roles v w stand
    (record { run = next_run stand.run stand.part; part = 0; ticks = stand.ticks; going = None }) (turn.Call place)
must_wait_more s scripts roles v w stand place r call h a =
    waits_case (is_some (caller_at v.terminal r.number).waits) refl a.waits
  where
    waits_case : (b : Bool)
        → is_some (caller_at v.terminal r.number).waits ≡ b
        → MatchBool b ((w ≡ v) × (quiet v.counts v.terminal ≡ false))
        (Appends (with_call v r.number (caller_at v.terminal r.number).next call) w v.flip
        (caller_entry v r.number waited))
        → TakesTurn s scripts roles v w stand
        (record { run = next_run stand.run stand.part; part = 0; ticks = stand.ticks; going = None }) (turn.Call place)
    waits_case true e k =
        let is_call = called s scripts roles v stand place r call h.turns.plays h.turns.is h.next in
        let must =
        ap (λ (o : Option PlainCall). is_wait (outcome_of v.terminal (caller_at v.terminal r.number) o)) is_call
        ∙ wait_test (outcome v.terminal (caller_at v.terminal r.number) call) a.must in
        absurd (false≢true (sym k.1 ∙ (turns_may s scripts roles v stand place r h.turns).in_vain e must))
    waits_case false e k = waited_more s scripts roles v w stand place r call h k

pub tried_more : (s : Scene) (scripts : List Script) (roles : List Role) (v w : PortValue) (stand : Stand) (place : ℕ)
    (r : Role) (call : PlainCall) (tried : PlainTried)
    → Calls s scripts roles v stand place r call
    → Attempts v w r.number (caller_at v.terminal r.number).next call tried
    → TakesTurn s scripts roles v w stand
    (record { run = next_run stand.run stand.part; part = 0; ticks = stand.ticks; going = going_after place tried })
    (turn.Call place)
tried_more s scripts roles v w stand place r call (done_by answer) h a =
    answered_more s scripts roles v w stand place r call answer h a
tried_more s scripts roles v w stand place r call took_part h a = parted_more s scripts roles v w stand place r call h a
tried_more s scripts roles v w stand place r call must_wait h a =
    must_wait_more s scripts roles v w stand place r call h a

-- ---- the end of a caller's calls

pub ended_more : (s : Scene) (scripts : List Script) (roles : List Role) (v w : PortValue) (stand : Stand) (place : ℕ)
    (r : Role)
    → Turns s scripts roles v stand place r
    → (standing_at v r.number).begun ≡ false
    → r.first + length (calls_in (slice_get scripts r.place)) ≤ (standing_at v r.number).next
    → Appends v w v.flip (end_entry v r.number)
    → TakesTurn s scripts roles v w stand
    (record { run = next_run stand.run stand.part; part = 0; ticks = stand.ticks; going = None }) (turn.Call place)
ended_more s scripts roles v w stand place r h between all appends =
    let c = r.number in
    let count = length (calls_in (slice_get scripts r.place)) in
    let e : PlainEntry = end_entry v c in
    let more = more_of s v w v.kept v.flip e h.plays.of_scene.counts h.plays.of_scene.known appends refl refl in
    let q = standing_at v c in
    let own : standing_at w c ≡ record q { over = true } = own_stands s v w e c more refl in
    let in_role = h.plays.callers.in_roles place r h.is in
    let high = in_role.high in
    let rest = in_role.rest between in
    let then_in_role : IsInRole r.first count (record q { over = true }) =
    record {
      low = in_role.low;
      high = in_role.high;
      calling = in_role.calling;
      over = λ o. omega arith;
      over_rest = λ o. between;
      rest = λ b. record { waits = rest.waits; parts = rest.parts; taken = rest.taken; generation = rest.generation };
    } in
    let kept_same : w.kept ≡ v.kept = ap (λ (x : PortValue). x.kept) appends.appended in
    let role = role_of s v.terminal.phase scripts roles place r h.plays.callers.are_roles h.is in
    let acts : Acts s scripts roles v w r None =
    record {
      phase = ap (λ (m : Marks). m.phase) (marks_at s v w e more);
      same = λ d other. other_stands s v w e c d more refl other;
      in_role = subst (λ (x : Standing). IsInRole r.first count x) (sym own) then_in_role;
      kept = λ d n k. subst (λ (ks : List PlainKept). IsKeptCall ks d n) (sym kept_same) k;
      own_kept = λ b. absurd (false≢true (sym between ∙ (sym (ap (λ (x : Standing). x.begun) own) ∙ b)));
      goes_on = λ i none. absurd (cc);
      own_parts = λ waits some.
          let none : (standing_at w c).parts ≡ 0 = ap (λ (x : Standing). x.parts) own ∙ rest.parts in
          absurd (omega arith);
    } in
    caller_more s scripts roles v w stand place r None e h more refl (marks_at s v w e more) refl refl tt
    (role.caller, (λ k. absurd (false≢true k)), (λ k. let first = role.first in let many = role.count in omega arith))
    acts (λ other. refl)
