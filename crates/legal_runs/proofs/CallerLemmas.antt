-- Where the callers stand in a phase, and at its end.
use Rattle.std.proofs.Common.{◌≡◌, inl, inr, ℕ, ◌+◌, ◌-◌, ◌<◌, ◌≤◌, nat_le, Bool, true, false, ◌&&◌, if◌then◌else◌}
use Rattle.std.proofs.Common.{List, [], Option, length, refl, sym, ◌∙◌, ap, subst, arith}
use Rattle.std.specs.Prelude.{count_by}
use Rattle.std.proofs.lemmas.Bool.{false≢true, eqb-true, cases_lt, leb-true}
use Rattle.std.proofs.lemmas.List.{get_or-map}
use Rattle.std.proofs.lemmas.Option.{slice_get_past}
use Rattle.tty_calls.specs.declared.journals.Who.{Who}
use Rattle.tty_calls.specs.Plain.{PlainCall, PlainEvent, answered, parted, waited, flushed, ticked, line_ended}
use Rattle.tty_calls.specs.Plain.{clock_ended, caller_ended, phase_ended, hung_up, PlainEntry, is_caller}
use Rattle.tty_calls.specs.Sessions.{PlainPhase, PlainSession, scripts_on, scripts_over, names_of, call_at, counts_on}
use Rattle.tty_terminal.specs.Terminals.{Terminal, caller_at, is_over}
use Rattle.tty_terminal.specs.Steps.{IsAllowed, Allowed, after, may_end, callers_in, nothing_to_flush}
use Rattle.tty_terminal.specs.Runs.{is_of_call}
use Rattle.tty_terminal.specs.Standing.{Standing, standing_of, standing_after_own, standing_after_other, standing_after}
use Rattle.tty_terminal.proofs.StandingLaws.{step_stands}
use Rattle.legal_runs.specs.Legal.{phase_at, name_at, has_script, is_caller_end, IsInPhase, first_step, steps_in}
use Rattle.legal_runs.specs.Legal.{session_events}
use Rattle.legal_runs.specs.Phases.{HasPlayed}
use Rattle.legal_runs.proofs.NameLemmas.{first_next, all_distinct}
use Rattle.legal_runs.proofs.ScriptLemmas.{first_stays}
use Rattle.legal_runs.proofs.OverLemmas.{all_over}
use Rattle.tty_calls.specs.declared.journals.Who.TheVariants as who

-- a caller of the phase has made some of its calls, and all of them where it is over; another has made none
abbrev pub Plays : Bool → (first count next : ℕ) → Bool → Type 0
Plays true first count next over = (first ≤ next) × (next ≤ first + count) × (over ≡ true → next ≡ first + count)
Plays false first count next over = (next ≡ first) × (over ≡ false)

pub who_is : (w : Who) (c : ℕ) → is_caller w c ≡ true → w ≡ who.Caller c
who_is (who.Caller d) c is = ap (λ (n : ℕ). who.Caller n) (eqb-true d c is)
who_is who.Flusher c is = absurd (false≢true is)
who_is who.Line c is = absurd (false≢true is)
who_is who.Clock c is = absurd (false≢true is)
who_is who.Session c is = absurd (false≢true is)

record OwnEntry (event : PlainEvent) (step next : ℕ) (over : Bool) : Type 0 where
  calls : is_of_call event ≡ true → (step ≡ next) × (over ≡ false)
  end : is_caller_end event ≡ true → step ≡ next

own_entry : (f : ℕ → ℕ → Option PlainCall) (counts : List ℕ) (t : Terminal) (c step part : ℕ) (event : PlainEvent)
    → IsAllowed f counts t (who.Caller c) step part event
    → OwnEntry event step (caller_at t c).next (caller_at t c).over
own_entry f counts t c step part (answered a dropped) h =
    record { calls = λ of. (h.next.at_step, h.next.not_over); end = λ is. absurd (false≢true is) }
own_entry f counts t c step part (parted n) h =
    record { calls = λ of. (h.next.at_step, h.next.not_over); end = λ is. absurd (false≢true is) }
own_entry f counts t c step part waited h =
    record { calls = λ of. (h.next.at_step, h.next.not_over); end = λ is. absurd (false≢true is) }
own_entry f counts t c step part (flushed chars) h =
    record { calls = λ of. absurd (false≢true of); end = λ is. absurd (false≢true is) }
own_entry f counts t c step part ticked h =
    record { calls = λ of. absurd (false≢true of); end = λ is. absurd (false≢true is) }
own_entry f counts t c step part (line_ended n) h =
    record { calls = λ of. absurd (false≢true of); end = λ is. absurd (false≢true is) }
own_entry f counts t c step part clock_ended h =
    record { calls = λ of. absurd (false≢true of); end = λ is. absurd (false≢true is) }
own_entry f counts t c step part caller_ended h = record { calls = λ of. absurd (false≢true of); end = λ is. h.at_step }
own_entry f counts t c step part phase_ended h =
    record { calls = λ of. absurd (false≢true of); end = λ is. absurd (false≢true is) }
own_entry f counts t c step part (hung_up dropped) h =
    record { calls = λ of. absurd (false≢true of); end = λ is. absurd (false≢true is) }

-- an entry of its own
own_plays : (event : PlainEvent) (step generation first count : ℕ) (s : Standing)
    → Plays true first count s.next s.over
    → OwnEntry event step s.next s.over
    → (is_of_call event ≡ true → (first ≤ step) × (step < first + count))
    → (is_caller_end event ≡ true → first + count ≤ step)
    → Plays true first count (standing_after_own event generation s).next (standing_after_own event generation s).over
own_plays (answered a dropped) step generation first count s h own calls end = (
  omega (arith, h.0),
  omega (arith, (own.calls refl).0, (calls refl).1),
  λ over. absurd (false≢true (sym (own.calls refl).1 ∙ over)),
)
own_plays (parted n) step generation first count s h own calls end = h
own_plays waited step generation first count s h own calls end = h
own_plays (flushed chars) step generation first count s h own calls end = h
own_plays ticked step generation first count s h own calls end = h
own_plays (line_ended n) step generation first count s h own calls end = h
own_plays clock_ended step generation first count s h own calls end = h
own_plays caller_ended step generation first count s h own calls end =
    (h.0, h.1, λ over. omega (arith, h.1, own.end refl, end refl))
own_plays phase_ended step generation first count s h own calls end = h
own_plays (hung_up dropped) step generation first count s h own calls end = h

pub other_stays : (event : PlainEvent) (s : Standing) → session_events event ≡ [] → standing_after_other event s ≡ s
other_stays (answered a dropped) s none = refl
other_stays (parted n) s none = refl
other_stays waited s none = refl
other_stays (flushed chars) s none = refl
other_stays ticked s none = refl
other_stays (line_ended n) s none = refl
other_stays clock_ended s none = refl
other_stays caller_ended s none = refl
other_stays phase_ended s none = cc
other_stays (hung_up dropped) s none = refl

abbrev pub PlaysAt : ℕ → PlainSession → ℕ → Terminal → ℕ → Type 0
PlaysAt p session k t c = Plays (has_script (scripts_on p (phase_at session k)) (name_at p session c))
    (first_step p session k c) (steps_in p session k c) (caller_at t c).next (caller_at t c).over

has_true : (b : Bool) (first count next : ℕ) (over : Bool)
    → b ≡ true
    → Plays b first count next over
    → Plays true first count next over
has_true true first count next over is h = h
has_true false first count next over is h = absurd (false≢true is)

from_true : (b : Bool) (first count next : ℕ) (over : Bool)
    → b ≡ true
    → Plays true first count next over
    → Plays b first count next over
from_true true first count next over is h = h
from_true false first count next over is h = absurd (false≢true is)

pub plays_more : (p : ℕ) (session : PlainSession) (k : ℕ) (t : Terminal) (e : PlainEntry) (c : ℕ)
    → Allowed (call_at p session) (counts_on p session) t e
    → IsInPhase p session k e.who e.step e.event
    → session_events e.event ≡ []
    → PlaysAt p session k t c
    → PlaysAt p session k (after (call_at p session) t e) c
plays_more p session k t e c allowed in_phase none h = either (is_caller e.who c) refl
  where
    f : ℕ → ℕ → Option PlainCall
    f = call_at p session

    b : Bool
    b = has_script (scripts_on p (phase_at session k)) (name_at p session c)

    stands : standing_of (caller_at (after f t e) c) ≡ standing_after c e (standing_of (caller_at t c))
    stands = step_stands f (counts_on p session) t e allowed c

    either : (own : Bool) → is_caller e.who c ≡ own → PlaysAt p session k (after f t e) c
    either true is =
        let by : e.who ≡ who.Caller c = who_is e.who c is in
        let there = subst (λ (w : Who). IsInPhase p session k w e.step e.event) by in_phase in
        let entry = own_entry f (counts_on p session) t c e.step e.part e.event
        (subst (λ (w : Who). IsAllowed f (counts_on p session) t w e.step e.part e.event) by allowed.1) in
        let now : standing_of (caller_at (after f t e) c)
        ≡ standing_after_own e.event e.generation (standing_of (caller_at t c)) =
        stands
        ∙ ap (λ o.
        if o
        then standing_after_own e.event e.generation (standing_of (caller_at t c))
        else standing_after_other e.event (standing_of (caller_at t c))) is in
        subst (λ (s : Standing). Plays b (first_step p session k c) (steps_in p session k c) s.next s.over) (sym now)
        (from_true b _ _ _ _ there.0
        (own_plays e.event e.step e.generation (first_step p session k c) (steps_in p session k c)
        (standing_of (caller_at t c)) (has_true b _ _ _ _ there.0 h) entry there.1 there.2))
    either false is =
        let now : standing_of (caller_at (after f t e) c) ≡ standing_of (caller_at t c) =
        stands
        ∙ ap (λ o.
        if o
        then standing_after_own e.event e.generation (standing_of (caller_at t c))
        else standing_after_other e.event (standing_of (caller_at t c))) is
        ∙ other_stays e.event (standing_of (caller_at t c)) none in
        subst (λ (s : Standing). Plays b (first_step p session k c) (steps_in p session k c) s.next s.over) (sym now) h

pub three_true : (a b c d : Bool) → (a && (b && (c && d))) ≡ true → (a ≡ true) × (b ≡ true) × (c ≡ true)
three_true true true true d h = (refl, refl, refl)
three_true true true false d h = absurd (false≢true h)
three_true true false c d h = absurd (false≢true h)
three_true false b c d h = absurd (false≢true h)

over_has : (b : Bool) (first count next : ℕ) (over : Bool) → Plays b first count next over → over ≡ true → b ≡ true
over_has true first count next over h is = refl
over_has false first count next over h is = absurd (false≢true (sym h.1 ∙ is))

played : (b : Bool) (first count next : ℕ) (over : Bool)
    → Plays b first count next over
    → (b ≡ true → over ≡ true)
    → HasPlayed b first count next over
played true first count next over h all = (h.2 (all refl), all refl)
played false first count next over h all = h

named_within : (p : ℕ) (session : PlainSession) (k c n : ℕ)
    → length (names_of (scripts_over p session.phases)) ≤ n
    → has_script (scripts_on p (phase_at session k)) (name_at p session c) ≡ true
    → c < n
named_within p session k c n many is = elim (cases_lt c (length (names_of (scripts_over p session.phases)))) [
  | inl less ↦ omega (arith, less, many)
  | inr past ↦ absurd (false≢true (sym (ap (λ name. has_script (scripts_on p (phase_at session k)) name)
      (slice_get_past (names_of (scripts_over p session.phases)) c past))
      ∙ is))
]

-- where the phase may end, each of its callers has made its calls, and is over
pub callers_complete : (p : ℕ) (session : PlainSession) (k : ℕ) (t : Terminal)
    → k < length session.phases
    → t.phase ≡ k
    → length (names_of (scripts_over p session.phases)) ≤ length t.callers
    → ((c : ℕ) → PlaysAt p session k t c)
    → may_end (counts_on p session) t ≡ true
    → (c : ℕ)
    → HasPlayed (has_script (scripts_on p (phase_at session k)) (name_at p session c)) (first_step p session k c)
    (steps_in p session k c) (caller_at t c).next (caller_at t c).over
callers_complete p session k t lt phase many plays may c =
    let scripts = scripts_on p (phase_at session k) in
    let parts = three_true t.line_over t.clock_over
    (nat_le (callers_in (counts_on p session) t.phase) (count_by is_over t.callers)) (nothing_to_flush t) may in
    let count : callers_in (counts_on p session) t.phase ≡ length scripts =
    ap (callers_in (counts_on p session)) phase
    ∙ get_or-map (λ (phase : PlainPhase). length (scripts_on p phase)) session.phases k
    (record { lines = []; ticks = []; callers = [] }) 0 lt in
    let all : length scripts ≤ count_by is_over t.callers =
    omega (arith, leb-true (callers_in (counts_on p session) t.phase) (count_by is_over t.callers) parts.2, count) in
    played (has_script scripts (name_at p session c)) _ _ _ _ (plays c) (λ is.
    all_over (names_of (scripts_over p session.phases)) scripts t.callers c
    (all_distinct (scripts_over p session.phases))
    (λ d over. over_has (has_script scripts (name_at p session d)) _ _ _ _ (plays d) over) all
    (named_within p session k c (length t.callers) many is) is)

pub played_next : (p : ℕ) (session : PlainSession) (k c next : ℕ) (over : Bool) (b : Bool)
    → k < length session.phases
    → has_script (scripts_on p (phase_at session k)) (name_at p session c) ≡ b
    → HasPlayed b (first_step p session k c) (steps_in p session k c) next over
    → next ≡ first_step p session (k + 1) c
played_next p session k c next over true lt is h = h.0 ∙ sym (first_next p session k c lt)
played_next p session k c next over false lt is h = h.0 ∙ sym (first_stays p session k c lt is)

pub plays_first : (b : Bool) (first count next : ℕ) (over : Bool)
    → next ≡ first
    → over ≡ false
    → Plays b first count next over
plays_first true first count next over at not =
    (omega (arith, at), omega (arith, at), λ is. absurd (false≢true (sym not ∙ is)))
plays_first false first count next over at not = (at, not)
