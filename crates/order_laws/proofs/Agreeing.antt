-- What a port that agrees with a session tells of its callers' next calls.
use Rattle.std.proofs.Common.{◌≡◌, ◌<◌, ◌≤◌, ℕ, ◌+◌, ◌-◌, suc, zero, List, [], ◌∷◌, ◌++◌}
use Rattle.std.proofs.Common.{None, Some, length, get_or, refl, sym, ◌∙◌, ap, subst, arith}
use Rattle.std.specs.Prelude.{slice_get, sum}
use Rattle.std.proofs.lemmas.Option.{slice_get-get_or}
use Rattle.tty_calls.specs.declared.sessions.Script.{Script}
use Rattle.tty_calls.specs.declared.journals.Who.{Who}
use Rattle.tty_calls.specs.Plain.{PlainCall, PlainEntry}
use Rattle.tty_calls.specs.Sessions.{PlainSession, call_at, counts_on}
use Rattle.tty_terminal.specs.Terminals.{opening, caller_at}
use Rattle.tty_terminal.specs.Runs.{KnowsMore, phase_after}
use Rattle.legal_runs.specs.Legal.{IsInPhase, AreInPhases, flip_on}
use Rattle.port_core.specs.Ports.{PortValue, call_in, end_entry}
use Rattle.play_base.specs.Roles.{Scene, calls_in}
use Rattle.one_thread.specs.Turns.{PlaysIn, IsNextCall, standing_at}
use Rattle.one_thread.specs.Acts.{InTurn, MakesCall, EndsCalls, HasNoCall}
use Rattle.play_base.specs.declared.roles.Role.{Role}
use Rattle.one_thread.specs.declared.after_line.Stand.{Stand}
use Rattle.one_thread.specs.declared.after_line.Turn.TheVariants as turn
use Rattle.one_thread.proofs.Calling.{role_of}
use Rattle.legal_runs.proofs.Places.{phase_from, leads_phase}
use Rattle.order_laws.specs.Agreed.{Agrees}

-- ---- the entries before the last, and the last

phases_before : (p : ℕ) (session : PlainSession) (k : ℕ) (es : List PlainEntry) (e : PlainEntry)
    → AreInPhases p session k (es ++ e ∷ [])
    → AreInPhases p session k es
phases_before p session k [] e h = tt
phases_before p session k (x ∷ es) e h = (h.0, phases_before p session (phase_after x.event k) es e h.1)

last_phase : (p : ℕ) (session : PlainSession) (k : ℕ) (es : List PlainEntry) (e : PlainEntry)
    → AreInPhases p session k (es ++ e ∷ [])
    → IsInPhase p session (phase_from k es) e.who e.step e.event
last_phase p session k [] e h = h.0
last_phase p session k (x ∷ es) e h = last_phase p session (phase_after x.event k) es e h.1

pub before : (s : Scene) (old new : PortValue) (e : PlainEntry)
    → new.journal ≡ old.journal ++ e ∷ []
    → KnowsMore (call_in old.kept) (call_in new.kept)
    → Agrees s new
    → Agrees s old
before s old new e added grows h =
    record {
      known = λ c step call is. h.known c step call (grows c step call is);
      in_phases = phases_before s.port s.session 0 old.journal e
          (subst (λ (es : List PlainEntry). AreInPhases s.port s.session 0 es) added h.in_phases);
    }

phases_front : (p : ℕ) (session : PlainSession) (k : ℕ) (es part : List PlainEntry)
    → AreInPhases p session k (es ++ part)
    → AreInPhases p session k es
phases_front p session k [] part h = tt
phases_front p session k (x ∷ es) part h = (h.0, phases_front p session (phase_after x.event k) es part h.1)

pub before_all : (s : Scene) (old new : PortValue) (part : List PlainEntry)
    → new.journal ≡ old.journal ++ part
    → KnowsMore (call_in old.kept) (call_in new.kept)
    → Agrees s new
    → Agrees s old
before_all s old new part added grows h =
    record {
      known = λ c step call is. h.known c step call (grows c step call is);
      in_phases = phases_front s.port s.session 0 old.journal part
          (subst (λ (es : List PlainEntry). AreInPhases s.port s.session 0 es) added h.in_phases);
    }

-- the last entry is of the phase to which the port has come
in_this_phase : {HasOrder : Scene → List PlainEntry → Type 0} (s : Scene) (scripts : List Script) (roles : List Role)
    (old new : PortValue) (stand : Stand) (e : PlainEntry)
    → PlaysIn HasOrder s scripts roles old stand
    → new.journal ≡ old.journal ++ e ∷ []
    → Agrees s new
    → IsInPhase s.port s.session old.terminal.phase e.who e.step e.event
in_this_phase s scripts roles old new stand e plays added h =
    let p = s.port in
    let session = s.session in
    let counts = counts_on p session in
    subst (λ (k : ℕ). IsInPhase p session k e.who e.step e.event) (leads_phase (call_at p session) counts
    (opening (sum counts) (flip_on p session)) old.journal old.terminal plays.run)
    (last_phase p session 0 old.journal e
    (subst (λ (es : List PlainEntry). AreInPhases p session 0 es) added h.in_phases))

-- ---- the next call

some_at : (calls : List PlainCall) (i : ℕ) (call x : PlainCall)
    → slice_get calls i ≡ Some x
    → Some x ≡ Some call
    → slice_get calls i ≡ Some call
some_at calls i call x at same = at ∙ same

pub next_made : (roles : List Role) (old new : PortValue) (stand : Stand) (place : ℕ) (r : Role) (call : PlainCall)
    (h : InTurn roles old stand (turn.Call place))
    → slice_get roles place ≡ Some r
    → MakesCall old new r.number call
    → Agrees h.scene new
    → IsNextCall h.scripts roles old place call
next_made roles old new stand place r call h is m agrees =
    let s = h.scene in
    let p = s.port in
    let session = s.session in
    let k = old.terminal.phase in
    let c = r.number in
    let next = (caller_at old.terminal c).next in
    let calls = calls_in (slice_get h.scripts r.place) in
    let role = role_of s k h.scripts roles place r h.plays.callers.are_roles is in
    let own = subst (λ (w : Who). IsInPhase p session k w m.entry.step m.entry.event) m.who
    (in_this_phase s h.scripts roles old new stand m.entry h.plays m.added agrees) in
    let within = own.1 m.of_call in
    let step = m.step in
    let first = role.first in
    let count = role.count in
    let low = within.0 in
    let high = within.1 in
    let below : next - r.first < length calls = omega arith in
    let x = get_or calls (next - r.first) call in
    let at : slice_get calls (next - r.first) ≡ Some x = slice_get-get_or calls (next - r.first) call below in
    let whole : r.first + (next - r.first) ≡ next = omega arith in
    let there : call_at p session c next ≡ Some x =
    ap (λ (n : ℕ). call_at p session c n) (sym whole) ∙ role.calls (next - r.first) x at in
    let known : call_at p session c next ≡ Some call = agrees.known c next call m.kept in
    record { role = r; at_place = is; next = some_at calls (next - r.first) call x at (sym there ∙ known) }

-- ---- no call left

none_past : (calls : List PlainCall) (i : ℕ) → length calls ≤ i → slice_get calls i ≡ None
none_past [] i le = refl
none_past (x ∷ calls) zero le = absurd (omega arith)
none_past (x ∷ calls) (suc i) le = none_past calls i (omega arith)

pub none_left : (roles : List Role) (old new : PortValue) (stand : Stand) (place : ℕ)
    (h : InTurn roles old stand (turn.Call place))
    → EndsCalls roles old new place
    → Agrees h.scene new
    → HasNoCall h.scripts roles old place
none_left roles old new stand place h ends agrees =
    let s = h.scene in
    let k = old.terminal.phase in
    let r = ends.role in
    let role = role_of s k h.scripts roles place r h.plays.callers.are_roles ends.at_place in
    let own = in_this_phase s h.scripts roles old new stand (end_entry old r.number) h.plays
    (ap (λ (v : PortValue). v.journal) ends.appends.appended) agrees in
    let all = own.2 refl in
    let first = role.first in
    let count = role.count in
    record {
      role = r;
      at_place = ends.at_place;
      none =
          none_past (calls_in (slice_get h.scripts r.place)) ((standing_at old r.number).next - r.first) (omega arith);
    }
