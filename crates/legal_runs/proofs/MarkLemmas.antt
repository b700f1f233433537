-- What the entries of a phase say of its line, its clock and its callers, read off the terminals before and after them.
use Rattle.std.proofs.Common.{◌≡◌, ◌≤◌, ℕ, ◌+◌, ◌-◌, suc, Bool, true, false, cond, List}
use Rattle.std.proofs.Common.{[], ◌∷◌, ◌++◌, Option, refl, sym, ap, subst, ◌∙◌, arith}
use Rattle.std.proofs.lemmas.Bool.{false≢true, eqb-true}
use Rattle.tty_base.specs.declared.lines.Overrun.{Overrun}
use Rattle.tty_calls.specs.declared.journals.Who.{Who}
use Rattle.tty_calls.specs.declared.journals.Who.TheVariants.{Caller, Flusher, Line, Clock, Session}
use Rattle.tty_calls.specs.Plain.{PlainCall, PlainEvent, answered, parted, waited, flushed, ticked, line_ended}
use Rattle.tty_calls.specs.Plain.{clock_ended, caller_ended, phase_ended, hung_up, PlainEntry, is_caller}
use Rattle.tty_calls.specs.Sessions.{PlainSession, scripts_on, call_at, counts_on}
use Rattle.tty_terminal.specs.Terminals.{Terminal, caller_at}
use Rattle.tty_terminal.specs.Steps.{ByCaller, IsAllowed, after}
use Rattle.tty_terminal.specs.Runs.{Leads}
use Rattle.tty_terminal.specs.Standing.{Standing, standing_of, standing_after_own, standing_after_other}
use Rattle.legal_runs.specs.Phases.{BeginsPhase, HasPlayed, CompletesPhase}
use Rattle.tty_terminal.specs.Marks.{Marks, marks_of, marks_after}
use Rattle.tty_terminal.proofs.MarkLaws.{step_marks}
use Rattle.tty_terminal.proofs.StandingLaws.{step_stands}
use Rattle.legal_runs.specs.Legal.{phase_at, name_at, has_script, first_step, steps_in, IsPhasePart, line_ends}
use Rattle.legal_runs.specs.Legal.{line_ends_in, ClockMark, ticks, clock_ends, clock_marks, clock_marks_in, CallerMark}
use Rattle.legal_runs.specs.Legal.{answers, caller_ends, caller_marks, caller_marks_in, session_events}
use Rattle.legal_runs.specs.Legal.{session_events_in, answers_from, ticks_of}
use Rattle.legal_runs.proofs.Truths.{nothing_first, nothing_rest}

-- ---- entries within a phase

-- ---- the line

-- the line's ends among entries, between its state before them and after them
abbrev pub LineOf : (over : Bool) (sent : ℕ) (over' : Bool) (sent' : ℕ) → List ℕ → Type 0
LineOf true sent over' sent' ends = (ends ≡ []) × (over' ≡ true) × (sent' ≡ sent)
LineOf false sent over' sent' ends = ends ≡ cond over' (sent' ∷ []) []

abbrev LineGuard : PlainEvent → Bool → Type 0
LineGuard (answered a dropped) over = Unit {0}
LineGuard (parted taken) over = Unit {0}
LineGuard waited over = Unit {0}
LineGuard (flushed chars) over = Unit {0}
LineGuard ticked over = Unit {0}
LineGuard (line_ended n) over = over ≡ false
LineGuard clock_ended over = Unit {0}
LineGuard caller_ended over = Unit {0}
LineGuard phase_ended over = Unit {0}
LineGuard (hung_up dropped) over = Unit {0}

line_guard : (calls : ℕ → ℕ → Option PlainCall) (counts : List ℕ) (t : Terminal) (who : Who) (step part : ℕ)
    (event : PlainEvent)
    → IsAllowed calls counts t who step part event
    → LineGuard event t.line_over
line_guard calls counts t who step part (answered a dropped) allowed = tt
line_guard calls counts t who step part (parted taken) allowed = tt
line_guard calls counts t who step part waited allowed = tt
line_guard calls counts t who step part (flushed chars) allowed = tt
line_guard calls counts t who step part ticked allowed = tt
line_guard calls counts t who step part (line_ended n) allowed = allowed.1.not_over
line_guard calls counts t who step part clock_ended allowed = tt
line_guard calls counts t who step part caller_ended allowed = tt
line_guard calls counts t who step part phase_ended allowed = tt
line_guard calls counts t who step part (hung_up dropped) allowed = tt

line_ended_once : (over over' : Bool) (sent sent' n : ℕ) (rest : List ℕ)
    → over ≡ false
    → LineOf true n over' sent' rest
    → LineOf over sent over' sent' (n ∷ rest)
line_ended_once true over' sent sent' n rest was after = absurd (false≢true (sym was))
line_ended_once false true sent sent' n rest was after = (λ i. sym after.2 i ∷ after.0 i)
line_ended_once false false sent sent' n rest was after = absurd (false≢true after.1)

line_join : (event : PlainEvent) (step part : ℕ) (m : Marks) (over' : Bool) (sent' : ℕ) (rest : List ℕ)
    → LineGuard event m.line_over
    → session_events event ≡ []
    → LineOf (marks_after event step part m).line_over (marks_after event step part m).sent over' sent' rest
    → LineOf m.line_over m.sent over' sent' (line_ends event ++ rest)
line_join (answered a dropped) step part m over' sent' rest guard inside after = after
line_join (parted taken) step part m over' sent' rest guard inside after = after
line_join waited step part m over' sent' rest guard inside after = after
line_join (flushed chars) step part m over' sent' rest guard inside after = after
line_join ticked step part m over' sent' rest guard inside after = after
line_join (line_ended n) step part m over' sent' rest guard inside after =
    line_ended_once m.line_over over' m.sent sent' n rest guard after
line_join clock_ended step part m over' sent' rest guard inside after = after
line_join caller_ended step part m over' sent' rest guard inside after = after
line_join phase_ended step part m over' sent' rest guard inside after = cc
line_join (hung_up dropped) step part m over' sent' rest guard inside after = cc

line_none : (over : Bool) (sent : ℕ) → LineOf over sent over sent []
line_none true sent = (refl, refl, refl)
line_none false sent = refl

pub line_marks : (calls : ℕ → ℕ → Option PlainCall) (counts : List ℕ) (t : Terminal) (es : List PlainEntry)
    (u : Terminal)
    → Leads calls counts t es u
    → session_events_in es ≡ []
    → LineOf t.line_over t.sent u.line_over u.sent (line_ends_in es)
line_marks calls counts t [] u leads inside =
    subst (λ (v : Terminal). LineOf t.line_over t.sent v.line_over v.sent []) (sym leads) (line_none t.line_over t.sent)
line_marks calls counts t (e ∷ es) u leads inside =
    let rest = line_marks calls counts (after calls t e) es u leads.1
    (nothing_rest (session_events e.event) (session_events_in es) inside) in
    line_join e.event e.step e.part (marks_of t) u.line_over u.sent (line_ends_in es)
    (line_guard calls counts t e.who e.step e.part e.event leads.0.1)
    (nothing_first (session_events e.event) (session_events_in es) inside)
    (subst (λ (m : Marks). LineOf m.line_over m.sent u.line_over u.sent (line_ends_in es))
    (step_marks calls counts t e leads.0) rest)

-- ---- the clock

abbrev pub ClockOf : (over : Bool) (tick : ℕ) (over' : Bool) (tick' : ℕ) → List ClockMark → Type 0
ClockOf true tick over' tick' marks = (marks ≡ []) × (over' ≡ true) × (tick' ≡ tick)
ClockOf false tick over' tick' marks =
    (tick ≤ tick') × (marks ≡ ticks_of (tick' - tick) ++ cond over' (clock_ends ∷ []) [])

abbrev ClockGuard : PlainEvent → Bool → Type 0
ClockGuard (answered a dropped) over = Unit {0}
ClockGuard (parted taken) over = Unit {0}
ClockGuard waited over = Unit {0}
ClockGuard (flushed chars) over = Unit {0}
ClockGuard ticked over = over ≡ false
ClockGuard (line_ended n) over = Unit {0}
ClockGuard clock_ended over = over ≡ false
ClockGuard caller_ended over = Unit {0}
ClockGuard phase_ended over = Unit {0}
ClockGuard (hung_up dropped) over = Unit {0}

clock_guard : (calls : ℕ → ℕ → Option PlainCall) (counts : List ℕ) (t : Terminal) (who : Who) (step part : ℕ)
    (event : PlainEvent)
    → IsAllowed calls counts t who step part event
    → ClockGuard event t.clock_over
clock_guard calls counts t who step part (answered a dropped) allowed = tt
clock_guard calls counts t who step part (parted taken) allowed = tt
clock_guard calls counts t who step part waited allowed = tt
clock_guard calls counts t who step part (flushed chars) allowed = tt
clock_guard calls counts t who step part ticked allowed = allowed.1.not_over
clock_guard calls counts t who step part (line_ended n) allowed = tt
clock_guard calls counts t who step part clock_ended allowed = allowed.1.not_over
clock_guard calls counts t who step part caller_ended allowed = tt
clock_guard calls counts t who step part phase_ended allowed = tt
clock_guard calls counts t who step part (hung_up dropped) allowed = tt

tick_first : (tick tick' : ℕ) (end rest : List ClockMark)
    → tick + 1 ≤ tick'
    → rest ≡ ticks_of (tick' - (tick + 1)) ++ end
    → ticks ∷ rest ≡ ticks_of (tick' - tick) ++ end
tick_first tick tick' end rest lt e =
    let one : suc (tick' - (tick + 1)) ≡ tick' - tick = omega arith in
    ap (λ (marks : List ClockMark). ticks ∷ marks) e ∙ ap (λ (n : ℕ). ticks_of n ++ end) one

clock_ticked : (over over' : Bool) (tick tick' : ℕ) (rest : List ClockMark)
    → over ≡ false
    → ClockOf over (tick + 1) over' tick' rest
    → ClockOf over tick over' tick' (ticks ∷ rest)
clock_ticked true over' tick tick' rest was after = absurd (false≢true (sym was))
clock_ticked false over' tick tick' rest was after =
    (omega (arith, after.0), tick_first tick tick' (cond over' (clock_ends ∷ []) []) rest after.0 after.1)

clock_ended_once : (over over' : Bool) (tick tick' : ℕ) (rest : List ClockMark)
    → over ≡ false
    → ClockOf true tick over' tick' rest
    → ClockOf over tick over' tick' (clock_ends ∷ rest)
clock_ended_once true over' tick tick' rest was after = absurd (false≢true (sym was))
clock_ended_once false false tick tick' rest was after = absurd (false≢true after.1)
clock_ended_once false true tick tick' rest was after =
    let none : 0 ≡ tick' - tick = omega (arith, after.2) in (
      omega (arith, after.2),
      ap (λ (marks : List ClockMark). clock_ends ∷ marks) after.0 ∙ ap (λ (n : ℕ). ticks_of n ++ clock_ends ∷ []) none,
    )

clock_join : (event : PlainEvent) (step part : ℕ) (m : Marks) (over' : Bool) (tick' : ℕ) (rest : List ClockMark)
    → ClockGuard event m.clock_over
    → session_events event ≡ []
    → ClockOf (marks_after event step part m).clock_over (marks_after event step part m).tick over' tick' rest
    → ClockOf m.clock_over m.tick over' tick' (clock_marks event ++ rest)
clock_join (answered a dropped) step part m over' tick' rest guard inside after = after
clock_join (parted taken) step part m over' tick' rest guard inside after = after
clock_join waited step part m over' tick' rest guard inside after = after
clock_join (flushed chars) step part m over' tick' rest guard inside after = after
clock_join ticked step part m over' tick' rest guard inside after =
    clock_ticked m.clock_over over' m.tick tick' rest guard after
clock_join (line_ended n) step part m over' tick' rest guard inside after = after
clock_join clock_ended step part m over' tick' rest guard inside after =
    clock_ended_once m.clock_over over' m.tick tick' rest guard after
clock_join caller_ended step part m over' tick' rest guard inside after = after
clock_join phase_ended step part m over' tick' rest guard inside after = cc
clock_join (hung_up dropped) step part m over' tick' rest guard inside after = cc

clock_none : (over : Bool) (tick : ℕ) → ClockOf over tick over tick []
clock_none true tick = (refl, refl, refl)
clock_none false tick =
    let none : 0 ≡ tick - tick = omega arith in (omega arith, ap (λ (n : ℕ). ticks_of n ++ []) none)

pub clock_marks_of : (calls : ℕ → ℕ → Option PlainCall) (counts : List ℕ) (t : Terminal) (es : List PlainEntry)
    (u : Terminal)
    → Leads calls counts t es u
    → session_events_in es ≡ []
    → ClockOf t.clock_over t.tick u.clock_over u.tick (clock_marks_in es)
clock_marks_of calls counts t [] u leads inside = subst
    (λ (v : Terminal). ClockOf t.clock_over t.tick v.clock_over v.tick []) (sym leads) (clock_none t.clock_over t.tick)
clock_marks_of calls counts t (e ∷ es) u leads inside =
    let rest = clock_marks_of calls counts (after calls t e) es u leads.1
    (nothing_rest (session_events e.event) (session_events_in es) inside) in
    clock_join e.event e.step e.part (marks_of t) u.clock_over u.tick (clock_marks_in es)
    (clock_guard calls counts t e.who e.step e.part e.event leads.0.1)
    (nothing_first (session_events e.event) (session_events_in es) inside)
    (subst (λ (m : Marks). ClockOf m.clock_over m.tick u.clock_over u.tick (clock_marks_in es))
    (step_marks calls counts t e leads.0) rest)

-- ---- a caller

abbrev end_mark : Bool → List CallerMark
end_mark over = cond over (caller_ends ∷ []) []

-- a caller's marks among entries, between where it stands before them and after them
abbrev CallerOf : (over : Bool) (next : ℕ) (over' : Bool) (next' : ℕ) → List CallerMark → Type 0
CallerOf true next over' next' marks = (marks ≡ []) × (over' ≡ true) × (next' ≡ next)
CallerOf false next over' next' marks = (next ≤ next') × (marks ≡ answers_from next (next' - next) ++ end_mark over')

-- an entry of the caller's own finds it not over, and an answer is of its next step
abbrev CallerGuard : PlainEvent → (step : ℕ) → (over : Bool) (next : ℕ) → Type 0
CallerGuard (answered a dropped) step over next = (over ≡ false) × (step ≡ next)
CallerGuard (parted taken) step over next = over ≡ false
CallerGuard waited step over next = over ≡ false
CallerGuard (flushed chars) step over next = Unit {0}
CallerGuard ticked step over next = Unit {0}
CallerGuard (line_ended n) step over next = Unit {0}
CallerGuard clock_ended step over next = Unit {0}
CallerGuard caller_ended step over next = over ≡ false
CallerGuard phase_ended step over next = Unit {0}
CallerGuard (hung_up dropped) step over next = Unit {0}

at_caller : (who : Who) (c : ℕ) (P : ℕ → Type 0) → ByCaller who P → is_caller who c ≡ true → P c
at_caller (Caller d) c P h is = subst P (eqb-true d c is) h
at_caller Flusher c P h is = absurd h
at_caller Line c P h is = absurd h
at_caller Clock c P h is = absurd h
at_caller Session c P h is = absurd h

caller_guard : (calls : ℕ → ℕ → Option PlainCall) (counts : List ℕ) (t : Terminal) (who : Who) (step part : ℕ)
    (event : PlainEvent) (c : ℕ)
    → IsAllowed calls counts t who step part event
    → is_caller who c ≡ true
    → CallerGuard event step (caller_at t c).over (caller_at t c).next
caller_guard calls counts t who step part (answered a dropped) c allowed is =
    let answer = at_caller who c _ allowed is in (answer.next.not_over, answer.next.at_step)
caller_guard calls counts t who step part (parted taken) c allowed is = (at_caller who c _ allowed is).next.not_over
caller_guard calls counts t who step part waited c allowed is = (at_caller who c _ allowed is).next.not_over
caller_guard calls counts t who step part (flushed chars) c allowed is = tt
caller_guard calls counts t who step part ticked c allowed is = tt
caller_guard calls counts t who step part (line_ended n) c allowed is = tt
caller_guard calls counts t who step part clock_ended c allowed is = tt
caller_guard calls counts t who step part caller_ended c allowed is = (at_caller who c _ allowed is).not_over
caller_guard calls counts t who step part phase_ended c allowed is = tt
caller_guard calls counts t who step part (hung_up dropped) c allowed is = tt

answer_first : (next next' : ℕ) (end rest : List CallerMark)
    → next + 1 ≤ next'
    → rest ≡ answers_from (next + 1) (next' - (next + 1)) ++ end
    → answers next ∷ rest ≡ answers_from next (next' - next) ++ end
answer_first next next' end rest lt e =
    let one : suc (next' - (next + 1)) ≡ next' - next = omega arith in
    ap (λ (marks : List CallerMark). answers next ∷ marks) e ∙ ap (λ (n : ℕ). answers_from next n ++ end) one

caller_answered : (over over' : Bool) (step next next' : ℕ) (rest : List CallerMark)
    → over ≡ false
    → step ≡ next
    → CallerOf over (next + 1) over' next' rest
    → CallerOf over next over' next' (answers step ∷ rest)
caller_answered true over' step next next' rest was at after = absurd (false≢true (sym was))
caller_answered false over' step next next' rest was at after = (
  omega (arith, after.0),
  ap (λ (n : ℕ). answers n ∷ rest) at ∙ answer_first next next' (end_mark over') rest after.0 after.1,
)

caller_ended_once : (over over' : Bool) (next next' : ℕ) (rest : List CallerMark)
    → over ≡ false
    → CallerOf true next over' next' rest
    → CallerOf over next over' next' (caller_ends ∷ rest)
caller_ended_once true over' next next' rest was after = absurd (false≢true (sym was))
caller_ended_once false false next next' rest was after = absurd (false≢true after.1)
caller_ended_once false true next next' rest was after =
    let none : 0 ≡ next' - next = omega (arith, after.2) in (
      omega (arith, after.2),
      ap (λ (marks : List CallerMark). caller_ends ∷ marks) after.0
          ∙ ap (λ (n : ℕ). answers_from next n ++ caller_ends ∷ []) none,
    )

-- an entry of its own
own_join : (event : PlainEvent) (step generation : ℕ) (s : Standing) (over' : Bool) (next' : ℕ) (rest : List CallerMark)
    → CallerGuard event step s.over s.next
    → session_events event ≡ []
    → CallerOf (standing_after_own event generation s).over (standing_after_own event generation s).next
    over' next' rest
    → CallerOf s.over s.next over' next' (caller_marks event step ++ rest)
own_join (answered a dropped) step generation s over' next' rest guard inside after =
    caller_answered s.over over' step s.next next' rest guard.0 guard.1 after
own_join (parted taken) step generation s over' next' rest guard inside after = after
own_join waited step generation s over' next' rest guard inside after = after
own_join (flushed chars) step generation s over' next' rest guard inside after = after
own_join ticked step generation s over' next' rest guard inside after = after
own_join (line_ended n) step generation s over' next' rest guard inside after = after
own_join clock_ended step generation s over' next' rest guard inside after = after
own_join caller_ended step generation s over' next' rest guard inside after =
    caller_ended_once s.over over' s.next next' rest guard after
own_join phase_ended step generation s over' next' rest guard inside after = cc
own_join (hung_up dropped) step generation s over' next' rest guard inside after = cc

-- an entry of another
other_join : (event : PlainEvent) (s : Standing) (over' : Bool) (next' : ℕ) (rest : List CallerMark)
    → session_events event ≡ []
    → CallerOf (standing_after_other event s).over (standing_after_other event s).next over' next' rest
    → CallerOf s.over s.next over' next' rest
other_join (answered a dropped) s over' next' rest inside after = after
other_join (parted taken) s over' next' rest inside after = after
other_join waited s over' next' rest inside after = after
other_join (flushed chars) s over' next' rest inside after = after
other_join ticked s over' next' rest inside after = after
other_join (line_ended n) s over' next' rest inside after = after
other_join clock_ended s over' next' rest inside after = after
other_join caller_ended s over' next' rest inside after = after
other_join phase_ended s over' next' rest inside after = cc
other_join (hung_up dropped) s over' next' rest inside after = cc

caller_join : (own : Bool) (event : PlainEvent) (step generation : ℕ) (s : Standing) (over' : Bool) (next' : ℕ)
    (rest : List CallerMark)
    → (own ≡ true → CallerGuard event step s.over s.next)
    → session_events event ≡ []
    → CallerOf (cond own (standing_after_own event generation s) (standing_after_other event s)).over
    (cond own (standing_after_own event generation s) (standing_after_other event s)).next over' next' rest
    → CallerOf s.over s.next over' next' (cond own (caller_marks event step) [] ++ rest)
caller_join true event step generation s over' next' rest guard inside after =
    own_join event step generation s over' next' rest (guard refl) inside after
caller_join false event step generation s over' next' rest guard inside after =
    other_join event s over' next' rest inside after

caller_none : (over : Bool) (next : ℕ) → CallerOf over next over next []
caller_none true next = (refl, refl, refl)
caller_none false next =
    let none : 0 ≡ next - next = omega arith in (omega arith, ap (λ (n : ℕ). answers_from next n ++ []) none)

pub caller_marks_of : (calls : ℕ → ℕ → Option PlainCall) (counts : List ℕ) (t : Terminal) (es : List PlainEntry)
    (u : Terminal) (c : ℕ)
    → Leads calls counts t es u
    → session_events_in es ≡ []
    → CallerOf (caller_at t c).over (caller_at t c).next (caller_at u c).over (caller_at u c).next
    (caller_marks_in c es)
caller_marks_of calls counts t [] u c leads inside =
    subst
    (λ (v : Terminal). CallerOf (caller_at t c).over (caller_at t c).next (caller_at v c).over (caller_at v c).next [])
    (sym leads) (caller_none (caller_at t c).over (caller_at t c).next)
caller_marks_of calls counts t (e ∷ es) u c leads inside =
    let rest = caller_marks_of calls counts (after calls t e) es u c leads.1
    (nothing_rest (session_events e.event) (session_events_in es) inside) in
    caller_join (is_caller e.who c) e.event e.step e.generation (standing_of (caller_at t c)) (caller_at u c).over
    (caller_at u c).next (caller_marks_in c es)
    (caller_guard calls counts t e.who e.step e.part e.event c leads.0.1)
    (nothing_first (session_events e.event) (session_events_in es) inside)
    (subst (λ (s : Standing). CallerOf s.over s.next (caller_at u c).over (caller_at u c).next (caller_marks_in c es))
    (step_stands calls counts t e leads.0 c) rest)

-- ---- a whole phase

line_whole : (over over' : Bool) (sent sent' n : ℕ) (ends : List ℕ)
    → over ≡ false
    → over' ≡ true
    → sent' ≡ n
    → LineOf over sent over' sent' ends
    → ends ≡ n ∷ []
line_whole true over' sent sent' n ends was is same marks = absurd (false≢true (sym was))
line_whole false true sent sent' n ends was is same marks = marks ∙ ap (λ (m : ℕ). m ∷ []) same
line_whole false false sent sent' n ends was is same marks = absurd (false≢true is)

clock_whole : (over over' : Bool) (tick tick' n : ℕ) (marks : List ClockMark)
    → over ≡ false
    → over' ≡ true
    → tick' ≡ tick + n
    → ClockOf over tick over' tick' marks
    → marks ≡ ticks_of n ++ clock_ends ∷ []
clock_whole true over' tick tick' n marks was is count of = absurd (false≢true (sym was))
clock_whole false true tick tick' n marks was is count of =
    let all : tick' - tick ≡ n = omega arith in of.1 ∙ ap (λ (m : ℕ). ticks_of m ++ clock_ends ∷ []) all
clock_whole false false tick tick' n marks was is count of = absurd (false≢true is)

caller_whole : (is_of_phase : Bool) (over over' : Bool) (first next next' count : ℕ) (marks : List CallerMark)
    → over ≡ false
    → next ≡ first
    → HasPlayed is_of_phase first count next' over'
    → CallerOf over next over' next' marks
    → marks ≡ cond is_of_phase (answers_from first count ++ caller_ends ∷ []) []
caller_whole is_of_phase true over' first next next' count marks was at played of = absurd (false≢true (sym was))
caller_whole true false over' first next next' count marks was at played of =
    let all : next' - next ≡ count = omega (arith, played.0) in
    of.1 ∙ (λ i. answers_from (at i) (all i) ++ end_mark (played.1 i))
caller_whole false false over' first next next' count marks was at played of =
    let none : next' - next ≡ 0 = omega (arith, played.0) in
    of.1 ∙ (λ i. answers_from next (none i) ++ end_mark (played.1 i))

-- the entries of a phase, by the terminals at its two ends
pub phase_part : (p : ℕ) (session : PlainSession) (overruns : List Overrun) (k : ℕ) (t : Terminal)
    (part : List PlainEntry) (u : Terminal)
    → Leads (call_at p session) (counts_on p session) t part u
    → session_events_in part ≡ []
    → BeginsPhase t
    → CompletesPhase p session overruns k t u
    → IsPhasePart p session overruns k part
phase_part p session overruns k t part u leads inside begins completes = record {
  line =
      line_whole t.line_over u.line_over t.sent u.sent _ (line_ends_in part) begins.line completes.line completes.sent
      (line_marks (call_at p session) (counts_on p session) t part u leads inside);
  clock = clock_whole t.clock_over u.clock_over t.tick u.tick _ (clock_marks_in part)
      begins.clock completes.clock completes.tick
      (clock_marks_of (call_at p session) (counts_on p session) t part u leads inside);
  callers = λ c. caller_whole (has_script (scripts_on p (phase_at session k)) (name_at p session c))
      (caller_at t c).over (caller_at u c).over
      (first_step p session k c) (caller_at t c).next (caller_at u c).next (steps_in p session k c)
      (caller_marks_in c part)
      (begins.callers c) (completes.first c) (completes.callers c)
      (caller_marks_of (call_at p session) (counts_on p session) t part u c leads inside);
  inside = inside;
}
