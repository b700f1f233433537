-- A caller's turn: what its call may come to.
use Rattle.std.proofs.Common.{◌≡◌, ◌≢◌, ◌<◌, ℕ, ◌+◌, ◌-◌, List, Bool, true, false, not, ◌&&◌, ◌||◌}
use Rattle.std.proofs.Common.{Option, None, Some, length, map, refl, sym, ◌∙◌, ap, subst, inl, inr, arith}
use Rattle.std.specs.Prelude.{slice_index, slice_get, nat_le, nat_lt, All, AllPairs, count_by}
use Rattle.std.proofs.lemmas.List.{length-map}
use Rattle.std.proofs.lemmas.Option.{get_or_from_slice_get, slice_get_within, slice_get-map, same_Some}
use Rattle.std.proofs.lemmas.Bool.{false≢true, cases_lt, le-leb}
use Rattle.std.proofs.lemmas.Bool.Decides.{nat_tests}
use Rattle.tty_calls.specs.declared.sessions.Script.{Script}
use Rattle.tty_calls.specs.Plain.{PlainCall, PlainEntry}
use Rattle.tty_calls.specs.Sessions.{call_at, counts_on}
use Rattle.tty_terminal.specs.declared.callers.CallerState.{CallerState}
use Rattle.tty_terminal.specs.Terminals.{Terminal, idle_caller, caller_at, has_begun, is_resting}
use Rattle.tty_terminal.specs.Calls.{outcome_of}
use Rattle.tty_terminal.specs.Outcomes as outcomes
use Rattle.tty_terminal.specs.Steps.{callers_in, quiet, nothing_to_flush, is_wait, MustWait, TakesPart}
use Rattle.tty_terminal.proofs.Effects.{outcome_keeps}
use Rattle.tty_terminal.proofs.WaitLaws.{run_waits, run_parts}
use Rattle.port_core.specs.Ports.{PortValue, call_in}
use Rattle.legal_runs.specs.Order.{can_go_on, is_waiting, must_wait}
use Rattle.play_base.specs.Roles.{Scene, calls_in, role_in, IsRoleOf, AreRolesOf}
use Rattle.one_thread.specs.Turns.{role_numbers, NothingGoesOn, IsPossible, standing_at, IsInParts, IsGoing, PlaysIn}
use Rattle.play_base.specs.declared.roles.Role.{Role}
use Rattle.one_thread.specs.declared.after_line.Stand.{Stand}
use Rattle.one_thread.specs.declared.after_line.Turn.TheVariants as turn
use Rattle.one_thread.proofs.Ranks.{number_at}
use Rattle.one_thread.proofs.Possible.{call_view}
use Rattle.one_thread.proofs.Entries.{numbers_same, can_same}
use Rattle.one_thread.proofs.Counting.{at_least}
use Rattle.legal_runs.proofs.Truths.{all_four}

-- ---- roles

all_get : {X Y : Type 0} (P : X → Type 0) (f : Y → X) (ys : List Y) (i : ℕ) (y : Y)
    → All P (map f ys)
    → slice_get ys i ≡ Some y
    → P (f y)
all_get P f ys i y all is =
    subst P (get_or_from_slice_get (map f ys) i (f y) (f y)
    (slice_get-map f ys i ∙ ap (λ o. Rattle.std.specs.Option.option_map f o) is))
    (all i (f y)
    (slice_get_within (map f ys) i (f y) (slice_get-map f ys i ∙ ap (λ o. Rattle.std.specs.Option.option_map f o) is)))

pub role_of : (s : Scene) (k : ℕ) (scripts : List Script) (roles : List Role) (i : ℕ) (r : Role)
    → AreRolesOf s k (map (role_in scripts) roles)
    → slice_get roles i ≡ Some r
    → IsRoleOf s k (role_in scripts r)
role_of s k scripts roles i r are is = all_get (IsRoleOf s k) (role_in scripts) roles i r are.each is

pub role_number : (roles : List Role) (i : ℕ) (r : Role)
    → slice_get roles i ≡ Some r
    → slice_index (role_numbers roles) i ≡ r.number
role_number roles i r is =
    number_at roles i r (slice_get_within roles i r is)
    ∙ ap (λ (x : Role). x.number) (get_or_from_slice_get roles i r r is)

-- no caller has two roles
pub same_place : (s : Scene) (k : ℕ) (scripts : List Script) (roles : List Role) (i j : ℕ)
    → AreRolesOf s k (map (role_in scripts) roles)
    → i < length roles
    → j < length roles
    → slice_index (role_numbers roles) i ≡ slice_index (role_numbers roles) j
    → i ≡ j
same_place s k scripts roles i j are lt lt' same =
    let apart : AllPairs (λ c d. c ≢ d) (role_numbers roles) =
    subst (λ (ns : List ℕ). AllPairs (λ c d. c ≢ d) ns) (numbers_same scripts roles) are.own_numbers in
    let many = length-map roles (λ (r : Role). r.number) in
    elim (cases_lt i j) [
      | inl less ↦ absurd (apart i j 0 less (omega (arith, many)) same)
      | inr ge ↦ elim (cases_lt j i) [
        | inl more ↦ absurd (apart j i 0 more (omega (arith, many)) (sym same))
        | inr le ↦ omega arith
      ]
    ]

-- ---- what is known of the caller whose turn it is

-- it is not over; where it waits and must go on waiting, nothing else can happen; and no other has an open part
pub record MayAct (s : Scene) (v : PortValue) (c : ℕ) : Type 0 where
  pub not_over : (caller_at v.terminal c).over ≡ false
  pub in_vain : is_waiting v.terminal c ≡ true
      → must_wait (call_at s.port s.session) v.terminal c ≡ true
      → quiet v.counts v.terminal ≡ true
  pub parts : (d : ℕ) → (standing_at v d).waits ≡ false → 0 < (standing_at v d).parts → d ≡ c
  pub generation : (standing_at v c).waits ≡ false
      → 0 < (standing_at v c).parts
      → (standing_at v c).generation ≡ v.terminal.generation

not_both : (over begun : Bool) → (over ≡ true → begun ≡ false) → begun ≡ true → over ≡ false
not_both false begun h e = refl
not_both true begun h e = absurd (false≢true (sym (h refl) ∙ e))

both_fail : (over waits must : Bool)
    → (not over && (not waits || not must)) ≡ true
    → (over ≡ false) × (waits ≡ true → must ≡ true → ⊥)
both_fail true waits must e = absurd (false≢true e)
both_fail false true true e = absurd (false≢true e)
both_fail false true false e = (refl, λ w m. absurd (false≢true m))
both_fail false false must e = (refl, λ w m. absurd (false≢true w))

rests : (over waits must : Bool) → (not over && (not waits || not must)) ≡ false → (over || waits) ≡ true
rests true waits must e = refl
rests false true must e = refl
rests false false must e = absurd (false≢true (sym e))

-- as many callers of the phase pass a test as it has, where each of them passes
pub enough : {HasOrder : Scene → List PlainEntry → Type 0} (s : Scene) (scripts : List Script) (roles : List Role)
    (v : PortValue) (stand : Stand) (p : CallerState → Bool)
    → PlaysIn HasOrder s scripts roles v stand
    → p idle_caller ≡ false
    → ((i : ℕ) → i < length (role_numbers roles) → p (caller_at v.terminal (slice_index (role_numbers roles) i)) ≡ true)
    → nat_le (callers_in v.counts v.terminal.phase) (count_by p v.terminal.callers) ≡ true
enough s scripts roles v stand p plays idle all =
    let are = plays.callers.are_roles in
    let apart : AllPairs (λ c d. c ≢ d) (role_numbers roles) =
    subst (λ (ns : List ℕ). AllPairs (λ c d. c ≢ d) ns) (numbers_same scripts roles) are.own_numbers in
    let least = at_least p v.terminal.callers (role_numbers roles) idle apart all in
    let many = length-map roles (λ (r : Role). r.number) in
    let mapped = length-map roles (role_in scripts) in
    let count : callers_in v.counts v.terminal.phase ≡ length roles =
    ap (λ (cs : List ℕ). callers_in cs v.terminal.phase) plays.of_scene.counts ∙ (sym are.count ∙ mapped) in
    le-leb (callers_in v.counts v.terminal.phase) (count_by p v.terminal.callers) (omega arith)

pub quiet_of : {HasOrder : Scene → List PlainEntry → Type 0} (s : Scene) (scripts : List Script) (roles : List Role)
    (v : PortValue) (stand : Stand)
    → PlaysIn HasOrder s scripts roles v stand
    → NothingGoesOn v (role_numbers roles)
    → quiet v.counts v.terminal ≡ true
quiet_of s scripts roles v stand plays nothing =
    let each =
    enough s scripts roles v stand is_resting plays refl
    (λ i lt.
    let c = slice_index (role_numbers roles) i in
    rests (caller_at v.terminal c).over (is_waiting v.terminal c) (must_wait (call_in v.kept) v.terminal c)
    (nothing.none i lt)) in
    all_four v.terminal.line_over v.terminal.clock_over _ (nothing_to_flush v.terminal)
    plays.line nothing.clock each nothing.idle

going_same : (numbers : List ℕ) (going : Option ℕ) (c d : ℕ) → IsGoing numbers going c → IsGoing numbers going d → d ≡ c
going_same numbers going c d h k =
    let same : k.place ≡ h.place = same_Some k.place h.place (sym k.at_place ∙ h.at_place) in
    sym k.is ∙ (ap (λ (i : ℕ). slice_index numbers i) same ∙ h.is)

none_going : (numbers : List ℕ) (going : Option ℕ) (d : ℕ) → going ≡ None → IsGoing numbers going d → ⊥
none_going numbers going d none h = let e = sym none ∙ h.at_place in absurd (cc)

pub may_act : {HasOrder : Scene → List PlainEntry → Type 0} (s : Scene) (scripts : List Script) (roles : List Role)
    (v : PortValue) (stand : Stand) (i : ℕ) (r : Role)
    → PlaysIn HasOrder s scripts roles v stand
    → slice_get roles i ≡ Some r
    → IsPossible v (role_numbers roles) stand.going (turn.Call i)
    → MayAct s v r.number
may_act s scripts roles v stand i r plays is possible =
    let c = r.number in
    let numbers = role_numbers roles in
    let at : slice_index numbers i ≡ c = role_number roles i r is in
    let in_role = plays.callers.in_roles i r is in
    let settled_parts : stand.going ≡ None
    → (d : ℕ)
    → (standing_at v d).waits ≡ false
    → 0 < (standing_at v d).parts
    → d ≡ c =
    λ none d w some. absurd (none_going numbers stand.going d none (plays.callers.parts d w some)) in
    let settled_generation : stand.going ≡ None
    → (standing_at v c).waits ≡ false
    → 0 < (standing_at v c).parts
    → (standing_at v c).generation ≡ v.terminal.generation =
    λ none w some. absurd (none_going numbers stand.going c none (plays.callers.parts c w some)) in
    elim (call_view v numbers stand.going i possible) [
      | inl there ↦
          let going : IsGoing numbers stand.going c = subst (λ (n : ℕ). IsGoing numbers stand.going n) at there in
          let open_part : IsInParts v c =
          subst (λ (n : ℕ). IsInParts v n) going.is (plays.callers.goes_on going.place going.at_place).1 in
          let begun = run_parts (call_at s.port s.session) (counts_on s.port s.session)
          _ v.journal v.terminal plays.run c open_part.parts in
          record {
            not_over =
                not_both (caller_at v.terminal c).over (has_begun (caller_at v.terminal c)) in_role.over_rest begun;
            in_vain = λ w m. absurd (false≢true (sym open_part.waits ∙ w));
            parts = λ d w some. going_same numbers stand.going c d going (plays.callers.parts d w some);
            generation = λ w some. open_part.generation;
          }
      | inr free ↦ elim free.1 [
        | inl can ↦
            let here : can_go_on (call_in v.kept) v.terminal c ≡ true =
            subst (λ (n : ℕ). can_go_on (call_in v.kept) v.terminal n ≡ true) at can in
            let facts = both_fail (caller_at v.terminal c).over (is_waiting v.terminal c)
            (must_wait (call_at s.port s.session) v.terminal c)
            (sym (can_same s scripts roles v stand plays c) ∙ here) in
            record {
              not_over = facts.0;
              in_vain = λ w m. absurd (facts.1 w m);
              parts = settled_parts free.0;
              generation = settled_generation free.0;
            }
        | inr vain ↦
            let waits : is_waiting v.terminal c ≡ true = subst (λ (n : ℕ). is_waiting v.terminal n ≡ true) at vain.1 in
            let begun = run_waits (call_at s.port s.session) (counts_on s.port s.session)
            _ v.journal v.terminal plays.run c waits in
            record {
              not_over =
                  not_both (caller_at v.terminal c).over (has_begun (caller_at v.terminal c)) in_role.over_rest begun;
              in_vain = λ w m. quiet_of s scripts roles v stand plays vain.0;
              parts = settled_parts free.0;
              generation = settled_generation free.0;
            }
      ]
    ]

-- ---- the call of its next step

-- the session's call of the step
pub called : {HasOrder : Scene → List PlainEntry → Type 0} (s : Scene) (scripts : List Script) (roles : List Role)
    (v : PortValue) (stand : Stand) (i : ℕ) (r : Role) (call : PlainCall)
    → PlaysIn HasOrder s scripts roles v stand
    → slice_get roles i ≡ Some r
    → slice_get (calls_in (slice_get scripts r.place)) ((standing_at v r.number).next - r.first) ≡ Some call
    → call_at s.port s.session r.number (caller_at v.terminal r.number).next ≡ Some call
called s scripts roles v stand i r call plays is next =
    let role = role_of s v.terminal.phase scripts roles i r plays.callers.are_roles is in
    let low = (plays.callers.in_roles i r is).low in
    let at : r.first + ((standing_at v r.number).next - r.first) ≡ (caller_at v.terminal r.number).next = omega arith in
    ap (λ (n : ℕ). call_at s.port s.session r.number n) (sym at)
    ∙ role.calls ((standing_at v r.number).next - r.first) call next

pub wait_test : (o : outcomes.Outcome) → MustWait o → is_wait o ≡ true
wait_test outcomes.unknown h = absurd h
wait_test outcomes.waits h = refl
wait_test (outcomes.takes taken left) h = absurd h
wait_test (outcomes.gives answer drops left) h = absurd h

-- a write of which parts were taken takes another in their generation alone
pub part_generation : (t : Terminal) (s : CallerState) (o : Option PlainCall) (n : ℕ)
    → TakesPart (outcome_of t s o) n
    → 0 < s.parts
    → s.generation ≡ t.generation
part_generation t s o n takes some = ((outcome_keeps t s o).part n takes).own (lt_test 0 s.parts some)
  where
    lt_test : (a b : ℕ) → a < b → nat_lt a b ≡ true
    lt_test a b lt = grind (arith, nat_tests)
