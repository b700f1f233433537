-- Where a phase may end nothing happens any more but its end; and how its callers come there.
use Rattle.std.proofs.Common.{◌≡◌, inl, inr, ℕ, List, [], ◌∷◌, ◌++◌, Bool, true, false, ◌==◌}
use Rattle.std.proofs.Common.{if◌then◌else◌, Option, length, refl, sym, ◌∙◌, ap, subst, arith}
use Rattle.std.proofs.lemmas.Bool.{false≢true, eqb-true, or_cases}
use Rattle.tty_base.specs.declared.characters.Flagged.{Flagged}
use Rattle.tty_calls.specs.declared.journals.Who.{Who}
use Rattle.tty_calls.specs.declared.journals.Who.TheVariants.{Caller, Flusher, Line, Clock, Session}
use Rattle.tty_calls.specs.Plain.{PlainCall, PlainEvent, answered, parted, waited, flushed, ticked, line_ended}
use Rattle.tty_calls.specs.Plain.{clock_ended, caller_ended, phase_ended, hung_up, PlainEntry, is_caller}
use Rattle.tty_calls.specs.Sessions.{PlainSession, scripts_on, call_at, counts_on}
use Rattle.tty_terminal.specs.Terminals.{Terminal, caller_at}
use Rattle.tty_terminal.specs.Calls.{outcome_of}
use Rattle.tty_terminal.specs.Steps.{nothing_to_flush, IsFlush, IsAllowed, Allowed, after_event, after}
use Rattle.tty_terminal.specs.Steps.{after_answer, with_dropped, left_by, after_part, after_wait, handle_number}
use Rattle.tty_terminal.specs.Runs.{Leads, is_of_call, phase_after}
use Rattle.tty_terminal.specs.Standing.{Standing, standing_of, standing_after_own, standing_after_other, standing_after}
use Rattle.tty_terminal.proofs.StandingLaws.{step_stands}
use Rattle.legal_runs.specs.Legal.{phase_at, name_at, has_script, IsCallerOf, IsInPhase, AreInPhases, session_events}
use Rattle.legal_runs.specs.Legal.{session_events_in}
use Rattle.legal_runs.proofs.EventLemmas.{quiet_phase}
use Rattle.legal_runs.proofs.CallerLemmas.{other_stays, who_is, PlaysAt, plays_more}
use Rattle.play_base.proofs.Meetings.{not_stuck}
use Rattle.port_cell.specs.declared.kept.Stamped.{Stamped}
use Rattle.tty_port.specs.Inside.{EntryWithCall}
use Rattle.tty_port.specs.Histories.{call_by}
use Rattle.tty_port.specs.Seen.{entries_in, led_to}
use Rattle.tty_port.specs.Placed.{HaveCalls}
use Rattle.legal_runs.proofs.Truths.{nothing_first, nothing_rest}

-- ---- the terminal that a history tells

call_told : (f : ℕ → ℕ → Option PlainCall) (call : Option PlainCall) (t : Terminal) (who : Who) (step part : ℕ)
    (event : PlainEvent)
    → (is_of_call event ≡ true → call_by f who step ≡ call)
    → after_event (λ (c s : ℕ). call) t who step part event ≡ after_event f t who step part event
call_told f call t (Caller c) step part (answered a dropped) h =
    ap (λ (o : Option PlainCall).
    after_answer (with_dropped (left_by (outcome_of t (caller_at t c) o) t) (length dropped)) c)
    (sym (h refl))
call_told f call t Flusher step part (answered a dropped) h = refl
call_told f call t Line step part (answered a dropped) h = refl
call_told f call t Clock step part (answered a dropped) h = refl
call_told f call t Session step part (answered a dropped) h = refl
call_told f call t (Caller c) step part (parted n) h =
    ap (λ (o : Option PlainCall). after_part (left_by (outcome_of t (caller_at t c) o) t) c (handle_number o) n)
    (sym (h refl))
call_told f call t Flusher step part (parted n) h = refl
call_told f call t Line step part (parted n) h = refl
call_told f call t Clock step part (parted n) h = refl
call_told f call t Session step part (parted n) h = refl
call_told f call t (Caller c) step part waited h =
    ap (λ (o : Option PlainCall). after_wait t c (handle_number o)) (sym (h refl))
call_told f call t Flusher step part waited h = refl
call_told f call t Line step part waited h = refl
call_told f call t Clock step part waited h = refl
call_told f call t Session step part waited h = refl
call_told f call t who step part (flushed chars) h = refl
call_told f call t who step part ticked h = refl
call_told f call t who step part (line_ended n) h = refl
call_told f call t who step part clock_ended h = refl
call_told f call t who step part caller_ended h = refl
call_told f call t who step part phase_ended h = refl
call_told f call t who step part (hung_up dropped) h = refl

-- the calls that a history tells lead where these calls lead
pub led_as_run : (f : ℕ → ℕ → Option PlainCall) (counts : List ℕ) (t : Terminal) (xs : List (Stamped EntryWithCall))
    (u : Terminal)
    → HaveCalls f xs
    → Leads f counts t (entries_in xs) u
    → led_to t xs ≡ u
led_as_run f counts t [] u have h = sym h
led_as_run f counts t (x ∷ xs) u have h =
    let e = x.what.entry in
    ap (λ (w : Terminal). led_to w xs) (call_told f x.what.call t e.who e.step e.part e.event have.0)
    ∙ led_as_run f counts (after f t e) xs u have.1 h.1

pub have_left : (f : ℕ → ℕ → Option PlainCall) (xs ys : List (Stamped EntryWithCall))
    → HaveCalls f (xs ++ ys)
    → HaveCalls f xs
have_left f [] ys h = tt
have_left f (x ∷ xs) ys h = (h.0, have_left f xs ys h.1)

-- ---- nothing more happens

-- line, clock and all callers of the phase are over, and nothing is left to flush
pub record IsIdle (p : ℕ) (session : PlainSession) (k : ℕ) (t : Terminal) : Type 0 where
  pub line : t.line_over ≡ true
  pub clock : t.clock_over ≡ true
  pub callers : (c : ℕ) → IsCallerOf p session k c → (caller_at t c).over ≡ true
  pub nothing : nothing_to_flush t ≡ true

no_flush : (t : Terminal) (step part : ℕ) (chars : List Flagged)
    → t.line_over ≡ true
    → nothing_to_flush t ≡ true
    → IsFlush t step part chars
    → ⊥
no_flush t step part chars over nothing h = elim (or_cases (t.taken == t.sent) _ nothing) [
  | inl all ↦ (let same : t.taken ≡ t.sent = eqb-true t.taken t.sent all in omega (arith, same, h.some, h.sent over))
  | inr stuck ↦ not_stuck t chars h.live h.accepted h.some stuck
]

not_both : (b : Bool) → b ≡ true → b ≡ false → ⊥
not_both b is not = false≢true (sym not ∙ is)

never : (p : ℕ) (session : PlainSession) (k : ℕ) (f : ℕ → ℕ → Option PlainCall) (counts : List ℕ) (t : Terminal)
    (who : Who) (step part : ℕ) (event : PlainEvent)
    → IsIdle p session k t
    → IsAllowed f counts t who step part event
    → IsInPhase p session k who step event
    → session_events event ≡ []
    → ⊥
never p session k f counts t (Caller c) step part (answered a dropped) idle h phase none =
    not_both (caller_at t c).over (idle.callers c phase.0) h.next.not_over
never p session k f counts t Flusher step part (answered a dropped) idle h phase none = absurd h
never p session k f counts t Line step part (answered a dropped) idle h phase none = absurd h
never p session k f counts t Clock step part (answered a dropped) idle h phase none = absurd h
never p session k f counts t Session step part (answered a dropped) idle h phase none = absurd h
never p session k f counts t (Caller c) step part (parted n) idle h phase none =
    not_both (caller_at t c).over (idle.callers c phase.0) h.next.not_over
never p session k f counts t Flusher step part (parted n) idle h phase none = absurd h
never p session k f counts t Line step part (parted n) idle h phase none = absurd h
never p session k f counts t Clock step part (parted n) idle h phase none = absurd h
never p session k f counts t Session step part (parted n) idle h phase none = absurd h
never p session k f counts t (Caller c) step part waited idle h phase none =
    not_both (caller_at t c).over (idle.callers c phase.0) h.next.not_over
never p session k f counts t Flusher step part waited idle h phase none = absurd h
never p session k f counts t Line step part waited idle h phase none = absurd h
never p session k f counts t Clock step part waited idle h phase none = absurd h
never p session k f counts t Session step part waited idle h phase none = absurd h
never p session k f counts t who step part (flushed chars) idle h phase none =
    no_flush t step part chars idle.line idle.nothing h.1
never p session k f counts t who step part ticked idle h phase none = not_both t.clock_over idle.clock h.1.not_over
never p session k f counts t who step part (line_ended n) idle h phase none =
    not_both t.line_over idle.line h.1.not_over
never p session k f counts t who step part clock_ended idle h phase none = not_both t.clock_over idle.clock h.1.not_over
never p session k f counts t (Caller c) step part caller_ended idle h phase none =
    not_both (caller_at t c).over (idle.callers c phase.0) h.not_over
never p session k f counts t Flusher step part caller_ended idle h phase none = absurd h
never p session k f counts t Line step part caller_ended idle h phase none = absurd h
never p session k f counts t Clock step part caller_ended idle h phase none = absurd h
never p session k f counts t Session step part caller_ended idle h phase none = absurd h
never p session k f counts t who step part phase_ended idle h phase none = absurd (cc)
never p session k f counts t who step part (hung_up dropped) idle h phase none = absurd (cc)

pub none_follow : (p : ℕ) (session : PlainSession) (k : ℕ) (t : Terminal) (xs : List (Stamped EntryWithCall))
    (u : Terminal)
    → IsIdle p session k t
    → Leads (call_at p session) (counts_on p session) t (entries_in xs) u
    → AreInPhases p session k (entries_in xs)
    → session_events_in (entries_in xs) ≡ []
    → xs ≡ []
none_follow p session k t [] u idle h phases none = refl
none_follow p session k t (x ∷ xs) u idle h phases none =
    let e = x.what.entry in
    absurd (never p session k (call_at p session) (counts_on p session) t e.who e.step e.part e.event idle h.0.1
    phases.0 (nothing_first (session_events e.event) (session_events_in (entries_in xs)) none))

-- ---- where the callers stand along a phase

pub in_phases_left : (p : ℕ) (session : PlainSession) (k : ℕ) (es fs : List PlainEntry)
    → AreInPhases p session k (es ++ fs)
    → AreInPhases p session k es
in_phases_left p session k [] fs h = tt
in_phases_left p session k (e ∷ es) fs h = (h.0, in_phases_left p session (phase_after e.event k) es fs h.1)

pub in_phases_right : (p : ℕ) (session : PlainSession) (k : ℕ) (es fs : List PlainEntry)
    → session_events_in es ≡ []
    → AreInPhases p session k (es ++ fs)
    → AreInPhases p session k fs
in_phases_right p session k [] fs none h = h
in_phases_right p session k (e ∷ es) fs none h =
    in_phases_right p session k es fs (nothing_rest (session_events e.event) (session_events_in es) none)
    (subst (λ (j : ℕ). AreInPhases p session j (es ++ fs))
    (quiet_phase e.event k (nothing_first (session_events e.event) (session_events_in es) none)) h.1)

pub plays_on : (p : ℕ) (session : PlainSession) (k : ℕ) (t : Terminal) (es : List PlainEntry) (u : Terminal) (c : ℕ)
    → Leads (call_at p session) (counts_on p session) t es u
    → AreInPhases p session k es
    → session_events_in es ≡ []
    → PlaysAt p session k t c
    → PlaysAt p session k u c
plays_on p session k t [] u c h phases none plays = subst (λ (x : Terminal). PlaysAt p session k x c) (sym h) plays
plays_on p session k t (e ∷ es) u c h phases none plays =
    let first = nothing_first (session_events e.event) (session_events_in es) none in
    plays_on p session k (after (call_at p session) t e) es u c h.1
    (subst (λ (j : ℕ). AreInPhases p session j es) (quiet_phase e.event k first) phases.1)
    (nothing_rest (session_events e.event) (session_events_in es) none)
    (plays_more p session k t e c h.0 phases.0 first plays)

-- a caller that is over has no call under way; one that is no caller of the phase has none at any time
abbrev pub Rests : Bool → Standing → Type 0
Rests true q = q.over ≡ true → q.begun ≡ false
Rests false q = q.begun ≡ false

abbrev pub RestsAt : ℕ → PlainSession → ℕ → Terminal → ℕ → Type 0
RestsAt p session k t c =
    Rests (has_script (scripts_on p (phase_at session k)) (name_at p session c)) (standing_of (caller_at t c))

own_rests : (f : ℕ → ℕ → Option PlainCall) (counts : List ℕ) (t : Terminal) (c step part generation : ℕ)
    (event : PlainEvent)
    → IsAllowed f counts t (Caller c) step part event
    → Rests true (standing_of (caller_at t c))
    → Rests true (standing_after_own event generation (standing_of (caller_at t c)))
own_rests f counts t c step part generation (answered a dropped) h rests = λ over. refl
own_rests f counts t c step part generation (parted n) h rests = λ over.
    absurd (not_both (caller_at t c).over over h.next.not_over)
own_rests f counts t c step part generation waited h rests = λ over.
    absurd (not_both (caller_at t c).over over h.next.not_over)
own_rests f counts t c step part generation (flushed chars) h rests = rests
own_rests f counts t c step part generation ticked h rests = rests
own_rests f counts t c step part generation (line_ended n) h rests = rests
own_rests f counts t c step part generation clock_ended h rests = rests
own_rests f counts t c step part generation caller_ended h rests = λ over. h.between
own_rests f counts t c step part generation phase_ended h rests = rests
own_rests f counts t c step part generation (hung_up dropped) h rests = rests

to_true : (b : Bool) (q : Standing) → b ≡ true → Rests b q → Rests true q
to_true true q is h = h
to_true false q is h = absurd (false≢true is)

from_true : (b : Bool) (q : Standing) → b ≡ true → Rests true q → Rests b q
from_true true q is h = h
from_true false q is h = absurd (false≢true is)

rests_more : (p : ℕ) (session : PlainSession) (k : ℕ) (t : Terminal) (e : PlainEntry) (c : ℕ)
    → Allowed (call_at p session) (counts_on p session) t e
    → IsInPhase p session k e.who e.step e.event
    → session_events e.event ≡ []
    → RestsAt p session k t c
    → RestsAt p session k (after (call_at p session) t e) c
rests_more p session k t e c allowed in_phase none h = either (is_caller e.who c) refl
  where
    f : ℕ → ℕ → Option PlainCall
    f = call_at p session

    b : Bool
    b = has_script (scripts_on p (phase_at session k)) (name_at p session c)

    q : Standing
    q = standing_of (caller_at t c)

    stands : standing_of (caller_at (after f t e) c) ≡ standing_after c e q
    stands = step_stands f (counts_on p session) t e allowed c

    either : (own : Bool) → is_caller e.who c ≡ own → RestsAt p session k (after f t e) c
    either true is =
        let by : e.who ≡ Caller c = who_is e.who c is in
        let there = subst (λ (w : Who). IsInPhase p session k w e.step e.event) by in_phase in
        let now : standing_of (caller_at (after f t e) c) ≡ standing_after_own e.event e.generation q =
        stands
        ∙ ap (λ (o : Bool). if o then standing_after_own e.event e.generation q else standing_after_other e.event q)
        is in
        subst (Rests b) (sym now)
        (from_true b (standing_after_own e.event e.generation q) there.0
        (own_rests f (counts_on p session) t c e.step e.part e.generation e.event
        (subst (λ (w : Who). IsAllowed f (counts_on p session) t w e.step e.part e.event) by allowed.1)
        (to_true b q there.0 h)))
    either false is =
        let now : standing_of (caller_at (after f t e) c) ≡ q =
        stands
        ∙ ap (λ (o : Bool). if o then standing_after_own e.event e.generation q else standing_after_other e.event q) is
        ∙ other_stays e.event q none in
        subst (Rests b) (sym now) h

pub rests_on : (p : ℕ) (session : PlainSession) (k : ℕ) (t : Terminal) (es : List PlainEntry) (u : Terminal) (c : ℕ)
    → Leads (call_at p session) (counts_on p session) t es u
    → AreInPhases p session k es
    → session_events_in es ≡ []
    → RestsAt p session k t c
    → RestsAt p session k u c
rests_on p session k t [] u c h phases none rests = subst (λ (x : Terminal). RestsAt p session k x c) (sym h) rests
rests_on p session k t (e ∷ es) u c h phases none rests =
    let first = nothing_first (session_events e.event) (session_events_in es) none in
    rests_on p session k (after (call_at p session) t e) es u c h.1
    (subst (λ (j : ℕ). AreInPhases p session j es) (quiet_phase e.event k first) phases.1)
    (nothing_rest (session_events e.event) (session_events_in es) none)
    (rests_more p session k t e c h.0 phases.0 first rests)

pub at_rest : (b : Bool) (q : Standing) → q.begun ≡ false → Rests b q
at_rest true q h = λ over. h
at_rest false q h = h

pub rested : (b : Bool) (q : Standing) → Rests b q → (b ≡ true → q.over ≡ true) → q.begun ≡ false
rested true q h over = h (over refl)
rested false q h over = h
