-- What an attempt of a role's next call needs, and what it comes to.
use Rattle.std.proofs.Common.{◌≡◌, ◌≤◌, ◌<◌, ℕ, ◌+◌, ◌-◌, zero, suc, List, [], ◌∷◌, false, Option}
use Rattle.std.proofs.Common.{None, Some, is_some, length, get_or, refl, sym, ◌∙◌, ap, subst, arith}
use Rattle.std.specs.Prelude.{slice_get, All, sum}
use Rattle.std.proofs.lemmas.Option.{slice_get-get_or, get_or_from_slice_get, slice_get_within}
use Rattle.std.proofs.lemmas.List.{length-map}
use Rattle.tty_calls.specs.declared.sessions.Script.{Script}
use Rattle.tty_calls.specs.Plain.{PlainEntry, PlainCall}
use Rattle.tty_calls.specs.Limits.{byte_count, IsCallWithin}
use Rattle.tty_terminal.specs.declared.callers.CallerState.{CallerState}
use Rattle.tty_terminal.specs.Terminals.{caller_at, has_begun}
use Rattle.port_core.specs.Attempts.{PlainTried, IsReady, Attempts}
use Rattle.port_core.specs.Ports.{PortValue, Appends, end_entry}
use Rattle.legal_runs.specs.Order.{is_of_consoles}
use Rattle.play_base.specs.Roles.{Scene, calls_in}
use Rattle.play_base.specs.Scenes.{HasAnyOrder}
use Rattle.one_thread.specs.Acts.{InOrder, HasNoCall, InLast, EndsCalls}
use Rattle.one_thread.specs.Turns.{role_numbers, IsTurn, IsPossible, standing_at, IsNextCall}
use Rattle.one_thread.specs.Turns.{next_run, PlaysIn, Plays, TakesTurn, going_after}
use Rattle.play_base.specs.declared.roles.Role.{Role}
use Rattle.one_thread.specs.declared.after_line.Stand.{Stand}
use Rattle.one_thread.specs.declared.after_line.Turn.{Turn}
use Rattle.one_thread.specs.declared.after_line.Turn.TheVariants as turn
use Rattle.one_thread.proofs.Entries.{kept_is}
use Rattle.one_thread.proofs.Calling.{role_of, may_act, called}
use Rattle.one_thread.proofs.Acting.{Turns, Calls, tried_more, ended_more}
use Rattle.std.proofs.lemmas.Bool.{false_from_ne_true}
use Rattle.tty_base.specs.Sizes.{MOST_ASKED}

all_got : {X : Type 0} (P : X → Type 0) (xs : List X) (i : ℕ) (x : X) → All P xs → slice_get xs i ≡ Some x → P x
all_got P xs i x all is = subst P (get_or_from_slice_get xs i x x is) (all i x (slice_get_within xs i x is))

-- a role's number is one of the port's callers
pub role_known : {HasOrder : Scene → List PlainEntry → Type 0} (s : Scene) (scripts : List Script) (roles : List Role)
    (v : PortValue) (stand : Stand) (i : ℕ) (r : Role)
    → PlaysIn HasOrder s scripts roles v stand
    → slice_get roles i ≡ Some r
    → r.number < sum v.counts
role_known s scripts roles v stand i r plays is =
    subst (λ (cs : List ℕ). r.number < sum cs) (sym plays.of_scene.counts)
    (role_of s v.terminal.phase scripts roles i r plays.callers.are_roles is).known

ready_for : (s : Scene) (scripts : List Script) (roles : List Role) (v : PortValue) (stand : Stand) (place : ℕ)
    (r : Role) (call : PlainCall)
    → Calls s scripts roles v stand place r call
    → IsReady v r.number (caller_at v.terminal r.number).next call
ready_for s scripts roles v stand place r call h =
    let c = r.number in
    let plays = h.turns.plays in
    let may = may_act s scripts roles v stand place r plays h.turns.is h.turns.possible in
    let role = role_of s v.terminal.phase scripts roles place r plays.callers.are_roles h.turns.is in
    let within : IsCallWithin call =
    all_got IsCallWithin (calls_in (slice_get scripts r.place)) ((standing_at v c).next - r.first)
    call role.within h.next in
    let is_call = called s scripts roles v stand place r call plays h.turns.is h.next in
    let bytes : byte_count call ≤ MOST_ASKED = within.bytes in
    record {
      known = role_known s scripts roles v stand place r plays h.turns.is;
      next = refl;
      not_over = may.not_over;
      number = within.handle;
      bytes = omega arith;
      same = λ begun.
          kept_is s v c (caller_at v.terminal c).next plays.of_scene.known (plays.callers.kept c begun) ∙ is_call;
      generation = λ none some. may.generation (ap (λ (o : Option ℕ). is_some o) none) some;
    }

pub calls_of_next : (s : Scene) (scripts : List Script) (roles : List Role) (v : PortValue) (stand : Stand) (place : ℕ)
    (call : PlainCall)
    → PlaysIn HasAnyOrder s scripts roles v stand
    → IsPossible v (role_numbers roles) stand.going (turn.Call place)
    → (n : IsNextCall scripts roles v place call)
    → Calls s scripts roles v stand place n.role call
calls_of_next s scripts roles v stand place call plays is n =
    record { turns = record { plays = plays; is = n.at_place; possible = is }; next = n.next }

pub got_role : (scripts : List Script) (roles : List Role) (v : PortValue) (place : ℕ) (call : PlainCall) (d : Role)
    → (n : IsNextCall scripts roles v place call)
    → n.role ≡ get_or roles place d
got_role scripts roles v place call d n = sym (get_or_from_slice_get roles place n.role d n.at_place)

pub number_known : (s : Scene) (scripts : List Script) (roles : List Role) (v : PortValue) (stand : Stand) (place : ℕ)
    (call : PlainCall) (d : Role)
    → PlaysIn HasAnyOrder s scripts roles v stand
    → IsNextCall scripts roles v place call
    → (get_or roles place d).number < sum v.counts
number_known s scripts roles v stand place call d plays n =
    subst (λ (r : Role). r.number < sum v.counts) (got_role scripts roles v place call d n)
    (role_known s scripts roles v stand place n.role plays n.at_place)

pub ready_at : (s : Scene) (scripts : List Script) (roles : List Role) (v : PortValue) (stand : Stand) (place : ℕ)
    (call : PlainCall) (d : Role) (state : CallerState)
    → PlaysIn HasAnyOrder s scripts roles v stand
    → IsPossible v (role_numbers roles) stand.going (turn.Call place)
    → IsNextCall scripts roles v place call
    → state ≡ caller_at v.terminal (get_or roles place d).number
    → IsReady v (get_or roles place d).number state.next call
ready_at s scripts roles v stand place call d state plays is n at =
    subst (λ (x : CallerState). IsReady v (get_or roles place d).number x.next call) (sym at)
    (subst (λ (r : Role). IsReady v r.number (caller_at v.terminal r.number).next call)
    (got_role scripts roles v place call d n)
    (ready_for s scripts roles v stand place n.role call (calls_of_next s scripts roles v stand place call plays is n)))

pub tried_at : (s : Scene) (scripts : List Script) (roles : List Role) (v w : PortValue) (stand rested : Stand)
    (place : ℕ) (call : PlainCall) (d : Role) (state : CallerState) (tried : PlainTried) (going : Option ℕ)
    → PlaysIn HasAnyOrder s scripts roles v stand
    → IsPossible v (role_numbers roles) stand.going (turn.Call place)
    → IsNextCall scripts roles v place call
    → state ≡ caller_at v.terminal (get_or roles place d).number
    → Attempts v w (get_or roles place d).number state.next call tried
    → rested ≡ record { run = next_run stand.run stand.part; part = 0; ticks = stand.ticks; going = None }
    → going ≡ going_after place tried
    → TakesTurn s scripts roles v w stand
    (record { run = rested.run; part = rested.part; ticks = rested.ticks; going = going }) (turn.Call place)
tried_at s scripts roles v w stand rested place call d state tried going plays is n at attempts rest goes =
    let made : Attempts v w n.role.number (caller_at v.terminal n.role.number).next call tried =
    subst (λ (r : Role). Attempts v w r.number (caller_at v.terminal r.number).next call tried)
    (sym (got_role scripts roles v place call d n))
    (subst (λ (x : CallerState). Attempts v w (get_or roles place d).number x.next call tried) at attempts) in
    let done = tried_more s scripts roles v w stand place n.role call tried
    (calls_of_next s scripts roles v stand place call plays is n) made in
    subst (λ (x : Stand). TakesTurn s scripts roles v w stand
    (record { run = x.run; part = x.part; ticks = x.ticks; going = going }) (turn.Call place))
    (sym rest)
    (subst (λ (o : Option ℕ). TakesTurn s scripts roles v w stand
    (record { run = next_run stand.run stand.part; part = 0; ticks = stand.ticks; going = o }) (turn.Call place))
    (sym goes) done)

-- ---- the caller at a place

pub is_place : (v : PortValue) (roles : List Role) (going : Option ℕ) (place : ℕ)
    → IsPossible v (role_numbers roles) going (turn.Call place)
    → place < length roles
is_place v roles going place is = let within = is.within in omega (arith, length-map roles (λ (r : Role). r.number))

pub turns_at : (s : Scene) (scripts : List Script) (roles : List Role) (v : PortValue) (stand : Stand) (place : ℕ)
    (d : Role)
    → PlaysIn HasAnyOrder s scripts roles v stand
    → IsPossible v (role_numbers roles) stand.going (turn.Call place)
    → Turns s scripts roles v stand place (get_or roles place d)
turns_at s scripts roles v stand place d plays is =
    let within = is.within in
    record {
      plays = plays;
      is = slice_get-get_or roles place d (omega (arith, length-map roles (λ (r : Role). r.number)));
      possible = is;
    }

pub first_below : (s : Scene) (scripts : List Script) (roles : List Role) (v : PortValue) (stand : Stand) (place : ℕ)
    (r : Role) (state : CallerState)
    → Turns s scripts roles v stand place r
    → state ≡ caller_at v.terminal r.number
    → r.first ≤ state.next
first_below s scripts roles v stand place r state h at =
    subst (λ (x : CallerState). r.first ≤ x.next) (sym at) (h.plays.callers.in_roles place r h.is).low

pub next_call_is : (s : Scene) (scripts : List Script) (roles : List Role) (v : PortValue) (stand : Stand) (place : ℕ)
    (r : Role) (state : CallerState) (call : PlainCall)
    → Turns s scripts roles v stand place r
    → state ≡ caller_at v.terminal r.number
    → slice_get (calls_in (slice_get scripts r.place)) (state.next - r.first) ≡ Some call
    → IsNextCall scripts roles v place call
next_call_is s scripts roles v stand place r state call h at next =
    record {
      role = r;
      at_place = h.is;
      next = subst
          (λ (x : CallerState). slice_get (calls_in (slice_get scripts r.place)) (x.next - r.first) ≡ Some call)
          at next;
    }

-- a caller that has no call left in the phase
pub record HasNone (s : Scene) (scripts : List Script) (v : PortValue) (r : Role) : Type 0 where
  pub not_over : (caller_at v.terminal r.number).over ≡ false
  pub between : has_begun (caller_at v.terminal r.number) ≡ false
  pub all : r.first + length (calls_in (slice_get scripts r.place)) ≤ (standing_at v r.number).next

none_past : (calls : List PlainCall) (i : ℕ) → slice_get calls i ≡ None → length calls ≤ i
none_past [] i e = omega arith
none_past (x ∷ calls) zero e = absurd (cc)
none_past (x ∷ calls) (suc i) e = let rest = none_past calls i e in omega arith

pub has_none : (s : Scene) (scripts : List Script) (roles : List Role) (v : PortValue) (stand : Stand) (place : ℕ)
    (r : Role) (state : CallerState)
    → Turns s scripts roles v stand place r
    → state ≡ caller_at v.terminal r.number
    → slice_get (calls_in (slice_get scripts r.place)) (state.next - r.first) ≡ None
    → HasNone s scripts v r
has_none s scripts roles v stand place r state h at none =
    let in_role = h.plays.callers.in_roles place r h.is in
    let past = none_past (calls_in (slice_get scripts r.place)) ((standing_at v r.number).next - r.first)
    (subst (λ (x : CallerState). slice_get (calls_in (slice_get scripts r.place)) (x.next - r.first) ≡ None) at none) in
    let low = in_role.low in
    let all : r.first + length (calls_in (slice_get scripts r.place)) ≤ (standing_at v r.number).next = omega arith in
    record {
      not_over = (may_act s scripts roles v stand place r h.plays h.is h.possible).not_over;
      between = false_from_ne_true (has_begun (caller_at v.terminal r.number))
          (λ begun. let below = in_role.calling begun in absurd (omega arith));
      all = all;
    }

pub end_at : (s : Scene) (scripts : List Script) (roles : List Role) (v w : PortValue) (stand : Stand) (place : ℕ)
    (r : Role) (rested : Stand)
    → Turns s scripts roles v stand place r
    → HasNone s scripts v r
    → Appends v w v.flip (end_entry v r.number)
    → rested ≡ record { run = next_run stand.run stand.part; part = 0; ticks = stand.ticks; going = None }
    → TakesTurn s scripts roles v w stand rested (turn.Call place)
end_at s scripts roles v w stand place r rested h none appends rest =
    subst (λ (x : Stand). TakesTurn s scripts roles v w stand x (turn.Call place)) (sym rest)
    (ended_more s scripts roles v w stand place r h none.between none.all appends)

-- ---- whatever scene is played

turns_in : (roles : List Role) (v : PortValue) (stand : Stand) (place : ℕ) (h : InLast roles v stand place)
    → Turns h.in_turn.scene h.in_turn.scripts roles v stand place h.none.role
turns_in roles v stand place h = record { plays = h.in_turn.plays; is = h.none.at_place; possible = h.in_turn.possible }

last_role : (roles : List Role) (v : PortValue) (stand : Stand) (place : ℕ) (d : Role) (h : InLast roles v stand place)
    → h.none.role ≡ get_or roles place d
last_role roles v stand place d h = sym (get_or_from_slice_get roles place h.none.role d h.none.at_place)

pub known_at : (roles : List Role) (v : PortValue) (stand : Stand) (place : ℕ) (d : Role)
    → InLast roles v stand place
    → (get_or roles place d).number < sum v.counts
known_at roles v stand place d h =
    subst (λ (r : Role). r.number < sum v.counts) (last_role roles v stand place d h)
    (role_known h.in_turn.scene h.in_turn.scripts roles v stand place h.none.role h.in_turn.plays h.none.at_place)

pub last_at : (roles : List Role) (v : PortValue) (stand : Stand) (place : ℕ) (d : Role)
    (h : InLast roles v stand place)
    → HasNone h.in_turn.scene h.in_turn.scripts v (get_or roles place d)
last_at roles v stand place d h =
    let r = h.none.role in
    subst (λ (x : Role). HasNone h.in_turn.scene h.in_turn.scripts v x) (last_role roles v stand place d h)
    (has_none h.in_turn.scene h.in_turn.scripts roles v stand place r (caller_at v.terminal r.number)
    (turns_in roles v stand place h) refl h.none.none)

pub ends_at : (roles : List Role) (v w : PortValue) (stand : Stand) (place : ℕ) (d : Role) (rested : Stand)
    (h : InLast roles v stand place)
    → Appends v w v.flip (end_entry v (get_or roles place d).number)
    → rested ≡ record { run = next_run stand.run stand.part; part = 0; ticks = stand.ticks; going = None }
    → TakesTurn h.in_turn.scene h.in_turn.scripts roles v w stand rested (turn.Call place)
ends_at roles v w stand place d rested h appends rest =
    let s = h.in_turn.scene in
    let scripts = h.in_turn.scripts in
    end_at s scripts roles v w stand place (get_or roles place d) rested
    (turns_at s scripts roles v stand place d h.in_turn.plays h.in_turn.possible) (last_at roles v stand place d h)
    appends rest

pub ended_at : (roles : List Role) (v w : PortValue) (stand : Stand) (place : ℕ) (d : Role)
    → InLast roles v stand place
    → Appends v w v.flip (end_entry v (get_or roles place d).number)
    → EndsCalls roles v w place
ended_at roles v w stand place d h appends =
    record {
      role = h.none.role;
      at_place = h.none.at_place;
      appends = subst (λ (r : Role). Appends v w v.flip (end_entry v r.number))
          (sym (last_role roles v stand place d h)) appends;
    }

-- ---- in the order of one thread

-- the next call of the caller whose turn it is, and that it has none left
pub next_at : (s : Scene) (scripts : List Script) (roles : List Role) (v : PortValue) (stand : Stand) (place : ℕ)
    (d : Role) (state : CallerState) (call : PlainCall)
    → PlaysIn HasAnyOrder s scripts roles v stand
    → IsPossible v (role_numbers roles) stand.going (turn.Call place)
    → state ≡ caller_at v.terminal (get_or roles place d).number
    → slice_get (calls_in (slice_get scripts (get_or roles place d).place))
    (state.next - (get_or roles place d).first) ≡ Some call
    → IsNextCall scripts roles v place call
next_at s scripts roles v stand place d state call plays is at next =
    next_call_is s scripts roles v stand place (get_or roles place d) state call
    (turns_at s scripts roles v stand place d plays is) at next

pub none_at : (s : Scene) (scripts : List Script) (roles : List Role) (v : PortValue) (stand : Stand) (place : ℕ)
    (d : Role) (state : CallerState)
    → PlaysIn HasAnyOrder s scripts roles v stand
    → IsPossible v (role_numbers roles) stand.going (turn.Call place)
    → state ≡ caller_at v.terminal (get_or roles place d).number
    → slice_get (calls_in (slice_get scripts (get_or roles place d).place))
    (state.next - (get_or roles place d).first) ≡ None
    → HasNoCall scripts roles v place
none_at s scripts roles v stand place d state plays is at none =
    let r = get_or roles place d in
    record {
      role = r;
      at_place = (turns_at s scripts roles v stand place d plays is).is;
      none = subst (λ (x : CallerState). slice_get (calls_in (slice_get scripts r.place)) (x.next - r.first) ≡ None)
          at none;
    }

abbrev pub in_order : (s : Scene) (scripts : List Script) (roles : List Role) (v : PortValue) (stand : Stand)
    (next this : Turn)
    → Plays s scripts roles v stand
    → IsTurn (is_of_consoles s.session) v (role_numbers roles) stand.going next
    → next ≡ this
    → InOrder roles v stand this
in_order s scripts roles v stand next this plays is same =
    record {
      scene = s;
      scripts = scripts;
      plays = plays;
      is_turn = subst (λ (n : Turn). IsTurn (is_of_consoles s.session) v (role_numbers roles) stand.going n) same is;
    }
