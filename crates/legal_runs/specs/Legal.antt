-- A legal run of a session on a port: what its journal and its line report must be.
use Rattle.std.specs.Prelude.{◌≡◌, ◌≤◌, ◌<◌, ◌+◌, ◌==◌, ℕ, zero, suc, List, [], ◌∷◌, ◌++◌, Bool}
use Rattle.std.specs.Prelude.{true, false, IsTrue, Option, None, Some, if◌then◌else◌, length}
use Rattle.std.specs.Prelude.{map, take, replicate, flat_map, slice_get, slice_index_or}
use Rattle.std.specs.Str.{bytes_eq}
use Rattle.std.specs.List.{list_any, range_with_len}
use Rattle.tty_base.specs.declared.characters.Flagged.{Flagged}
use Rattle.tty_base.specs.declared.lines.LineStep.{LineStep}
use Rattle.tty_base.specs.declared.lines.Overrun.{Overrun}
use Rattle.tty_calls.specs.declared.journals.PortRun.{PortRun}
use Rattle.tty_calls.specs.declared.journals.Who.{Who}
use Rattle.tty_calls.specs.declared.journals.Who.TheVariants.{Caller, Flusher, Line, Clock, Session}
use Rattle.tty_calls.specs.Plain.{PlainEvent, answered, parted, waited, flushed, ticked, line_ended}
use Rattle.tty_calls.specs.Plain.{clock_ended, caller_ended, phase_ended, hung_up, PlainEntry, is_caller}
use Rattle.tty_calls.specs.Sessions.{PlainScript, PlainPhase, PlainSession, line_on, ticks_on}
use Rattle.tty_calls.specs.Sessions.{scripts_on, scripts_over, names_of, calls_of, call_at, counts_on}
use Rattle.uart_line.specs.Received.{received_list, lost_count, script}
use Rattle.tty_base.specs.Lines.{arrival_count}
use Rattle.uart_line.specs.Offered.{kept_list, AreShown}
use Rattle.tty_terminal.specs.Terminals.{Terminal}
use Rattle.tty_terminal.specs.Runs.{IsRun, OneGeneration, chars_of, is_of_call, phase_after}

-- ---- what a session asks of a port, phase by phase

-- a phase in which nothing happens stands past the last
abbrev pub phase_at : PlainSession → ℕ → PlainPhase
phase_at session k = slice_index_or session.phases k (record { lines = []; ticks = []; callers = [] })

-- the name of a caller, by its number
abbrev pub name_at : ℕ → PlainSession → ℕ → Option (List ℕ)
name_at p session c = slice_get (names_of (scripts_over p session.phases)) c

abbrev pub has_script : List PlainScript → Option (List ℕ) → Bool
has_script scripts None = false
has_script scripts (Some name) = list_any (λ s. bytes_eq s.name name) scripts

-- a caller of the phase has a script in it, which may be empty
abbrev pub IsCallerOf : ℕ → PlainSession → ℕ → ℕ → Type 0
IsCallerOf p session k c = IsTrue (has_script (scripts_on p (phase_at session k)) (name_at p session c))

-- how many calls a caller has in the phases before this one, which is its first step in it, and in it
abbrev pub first_step : ℕ → PlainSession → ℕ → ℕ → ℕ
first_step p session k c = length (calls_of (scripts_over p (take k session.phases)) (name_at p session c))

abbrev pub steps_in : ℕ → PlainSession → ℕ → ℕ → ℕ
steps_in p session k c = length (calls_of (scripts_on p (phase_at session k)) (name_at p session c))

-- a caller's step is of the phase
abbrev pub IsCallOf : ℕ → PlainSession → ℕ → ℕ → ℕ → Type 0
IsCallOf p session k c step =
    (first_step p session k c ≤ step) × (step < first_step p session k c + steps_in p session k c)

abbrev pub is_caller_end : PlainEvent → Bool
is_caller_end (answered a dropped) = false
is_caller_end (parted taken) = false
is_caller_end waited = false
is_caller_end (flushed chars) = false
is_caller_end ticked = false
is_caller_end (line_ended n) = false
is_caller_end clock_ended = false
is_caller_end caller_ended = true
is_caller_end phase_ended = false
is_caller_end (hung_up dropped) = false

-- an entry of a caller in phase k is of a caller of that phase: of one of its calls of the phase, or its end after
-- all of them
abbrev pub IsInPhase : ℕ → PlainSession → ℕ → Who → ℕ → PlainEvent → Type 0
IsInPhase p session k (Caller c) step event =
    IsCallerOf p session k c × (IsTrue (is_of_call event) → IsCallOf p session k c step)
    × (IsTrue (is_caller_end event) → first_step p session k c + steps_in p session k c ≤ step)
IsInPhase p session k Flusher step event = Unit {0}
IsInPhase p session k Line step event = Unit {0}
IsInPhase p session k Clock step event = Unit {0}
IsInPhase p session k Session step event = Unit {0}

-- each entry, from phase k on
abbrev pub AreInPhases : ℕ → PlainSession → ℕ → List PlainEntry → Type 0
AreInPhases p session k [] = Unit {0}
AreInPhases p session k (e ∷ es) =
    IsInPhase p session k e.who e.step e.event × AreInPhases p session (phase_after e.event k) es

-- the line's steps in the first phases
abbrev pub script_of_first : ℕ → PlainSession → ℕ → List LineStep
script_of_first p session phases = script (map (line_on p) (take phases session.phases))

-- the line's steps in all phases
abbrev pub script_on : ℕ → PlainSession → List LineStep
script_on p session = script (map (line_on p) session.phases)

-- how many characters were received in phases 0 to k, and are no overruns
abbrev pub sent_by : ℕ → PlainSession → List Overrun → ℕ → ℕ
sent_by p session overruns k = length (kept_list (received_list (script_of_first p session (k + 1))) overruns)

-- ---- the entries of a part of a journal

-- what the line's ends say was sent
abbrev pub line_ends : PlainEvent → List ℕ
line_ends (answered a dropped) = []
line_ends (parted taken) = []
line_ends waited = []
line_ends (flushed chars) = []
line_ends ticked = []
line_ends (line_ended n) = n ∷ []
line_ends clock_ended = []
line_ends caller_ended = []
line_ends phase_ended = []
line_ends (hung_up dropped) = []

abbrev pub line_ends_in : List PlainEntry → List ℕ
line_ends_in part = flat_map (λ e. line_ends e.event) part

pub data ClockMark : Type 0 where
  ticks : ClockMark
  clock_ends : ClockMark

abbrev pub clock_marks : PlainEvent → List ClockMark
clock_marks (answered a dropped) = []
clock_marks (parted taken) = []
clock_marks waited = []
clock_marks (flushed chars) = []
clock_marks ticked = ticks ∷ []
clock_marks (line_ended n) = []
clock_marks clock_ended = clock_ends ∷ []
clock_marks caller_ended = []
clock_marks phase_ended = []
clock_marks (hung_up dropped) = []

abbrev pub clock_marks_in : List PlainEntry → List ClockMark
clock_marks_in part = flat_map (λ e. clock_marks e.event) part

pub data CallerMark : Type 0 where
  answers : (step : ℕ) → CallerMark
  caller_ends : CallerMark

abbrev pub caller_marks : PlainEvent → ℕ → List CallerMark
caller_marks (answered a dropped) step = answers step ∷ []
caller_marks (parted taken) step = []
caller_marks waited step = []
caller_marks (flushed chars) step = []
caller_marks ticked step = []
caller_marks (line_ended n) step = []
caller_marks clock_ended step = []
caller_marks caller_ended step = caller_ends ∷ []
caller_marks phase_ended step = []
caller_marks (hung_up dropped) step = []

-- the answers and the ends of one caller
abbrev pub caller_marks_in : ℕ → List PlainEntry → List CallerMark
caller_marks_in c part = flat_map (λ e. if is_caller e.who c then caller_marks e.event e.step else []) part

-- the ends of phases and the hangups
abbrev pub session_events : PlainEvent → List PlainEvent
session_events (answered a dropped) = []
session_events (parted taken) = []
session_events waited = []
session_events (flushed chars) = []
session_events ticked = []
session_events (line_ended n) = []
session_events clock_ended = []
session_events caller_ended = []
session_events phase_ended = phase_ended ∷ []
session_events (hung_up dropped) = hung_up dropped ∷ []

abbrev pub session_events_in : List PlainEntry → List PlainEvent
session_events_in part = flat_map (λ e. session_events e.event) part

-- ---- a finished journal

-- so many answers, with steps in order from this one on
abbrev pub answers_from : ℕ → ℕ → List CallerMark
answers_from first count = map answers (range_with_len first count)

-- a caller of the phase has its calls answered, each once and in order, and then ends; no other has an entry
abbrev pub caller_part : ℕ → PlainSession → ℕ → ℕ → List CallerMark
caller_part p session k c =
    if has_script (scripts_on p (phase_at session k)) (name_at p session c)
    then answers_from (first_step p session k c) (steps_in p session k c) ++ caller_ends ∷ []
    else []

abbrev pub ticks_of : ℕ → List ClockMark
ticks_of n = replicate n ticks

-- the entries of phase k before its end
pub record IsPhasePart (p : ℕ) (session : PlainSession) (overruns : List Overrun) (k : ℕ)
    (part : List PlainEntry) : Type 0 where
  -- the line ends once, with the number of characters sent so far
  pub line : line_ends_in part ≡ sent_by p session overruns k ∷ []
  -- the clock has its ticks, and then ends once
  pub clock : clock_marks_in part ≡ ticks_of (ticks_on p (phase_at session k)) ++ clock_ends ∷ []
  pub callers : (c : ℕ) → caller_marks_in c part ≡ caller_part p session k c
  pub inside : session_events_in part ≡ []

-- the entries of phase k, its end, and what is left
pub record EndsPhase (p : ℕ) (session : PlainSession) (overruns : List Overrun) (k : ℕ) (journal : List PlainEntry)
    (IsRest : List PlainEntry → Type 0) : Type 0 where
  pub part : List PlainEntry
  pub last : PlainEntry
  pub rest : List PlainEntry
  pub parts : journal ≡ part ++ last ∷ rest
  pub is_part : IsPhasePart p session overruns k part
  pub ends : last.event ≡ phase_ended
  pub goes_on : IsRest rest

-- one hangup, and nothing after it
pub record HangsUp (journal : List PlainEntry) : Type 0 where
  pub entry : PlainEntry
  pub dropped : List Flagged
  pub alone : journal ≡ entry ∷ []
  pub is_hangup : entry.event ≡ hung_up dropped

-- the journal has these phases, from phase k on, and the hangup after them
abbrev pub IsFinishedFrom : ℕ → PlainSession → List Overrun → ℕ → List PlainPhase → List PlainEntry → Type 0
IsFinishedFrom p session overruns k [] journal = HangsUp journal
IsFinishedFrom p session overruns k (phase ∷ phases) journal =
    EndsPhase p session overruns k journal (IsFinishedFrom p session overruns (k + 1) phases)

abbrev pub IsFinished : ℕ → PlainSession → List Overrun → List PlainEntry → Type 0
IsFinished p session overruns journal = IsFinishedFrom p session overruns 0 session.phases journal

-- ---- overruns

abbrev pub is_phase_end : PlainEvent → Bool
is_phase_end (answered a dropped) = false
is_phase_end (parted taken) = false
is_phase_end waited = false
is_phase_end (flushed chars) = false
is_phase_end ticked = false
is_phase_end (line_ended n) = false
is_phase_end clock_ended = false
is_phase_end caller_ended = false
is_phase_end phase_ended = true
is_phase_end (hung_up dropped) = false

-- the entries before phase k
abbrev pub before_phase : ℕ → List PlainEntry → List PlainEntry
before_phase k [] = []
before_phase zero (e ∷ es) = []
before_phase (suc k) (e ∷ es) = e ∷ (if is_phase_end e.event then before_phase k es else before_phase (suc k) es)

-- those before the end of the line of phase k
abbrev pub before_line_end : ℕ → List PlainEntry → List PlainEntry
before_line_end k [] = []
before_line_end zero (e ∷ es) = if length (line_ends e.event) == 0 then e ∷ before_line_end zero es else []
before_line_end (suc k) (e ∷ es) =
    e ∷ (if is_phase_end e.event then before_line_end k es else before_line_end (suc k) es)

-- how many characters were received before phase k
abbrev pub received_before : ℕ → PlainSession → ℕ → ℕ
received_before p session k = length (received_list (script_of_first p session k))

-- an overrun's place lies in what was received in phase k
abbrev pub IsOverrunOfPhase : ℕ → PlainSession → ℕ → Overrun → Type 0
IsOverrunOfPhase p session k o = (received_before p session k ≤ o.at) × (o.at < received_before p session (k + 1))

-- An overrun stands at a character that was received, and has seen taken all that was taken before the phase of that
-- character, and nothing that was taken after the end of its line.
pub record IsSeen (p : ℕ) (session : PlainSession) (journal : List PlainEntry) (o : Overrun) : Type 0 where
  pub at_character : o.at < length (received_list (script_on p session))
  pub from_before : (k : ℕ) → IsOverrunOfPhase p session k o → length (chars_of (before_phase k journal)) ≤ o.seen
  pub by_line_end : (k : ℕ) → IsOverrunOfPhase p session k o → o.seen ≤ length (chars_of (before_line_end k journal))

abbrev pub AreSeen : ℕ → PlainSession → List PlainEntry → List Overrun → Type 0
AreSeen p session journal [] = Unit {0}
AreSeen p session journal (o ∷ overruns) = IsSeen p session journal o × AreSeen p session journal overruns

-- ---- a legal run

-- the capacity of a port's flip buffer
abbrev pub flip_on : ℕ → PlainSession → ℕ
flip_on p session = slice_index_or session.flips p 0

-- the entries are steps of the terminal for the calls of the session, in their phases, up to this terminal
pub record IsOnTheWay (p : ℕ) (session : PlainSession) (journal : List PlainEntry) (t : Terminal) : Type 0 where
  pub steps : IsRun (call_at p session) (counts_on p session) (flip_on p session) journal t
  pub in_phases : AreInPhases p session 0 journal
  pub one : OneGeneration journal

-- The account of a port: the journal is finished, its characters are those that the line received without the
-- overruns, each overrun is shown at a full buffer, and the line's report has the numbers of the line's steps.
pub record IsAccounted (p : ℕ) (session : PlainSession) (run : PortRun) : Type 0 where
  pub finished : IsFinished p session run.line.overruns.items run.journal.items
  pub chars : chars_of run.journal.items ≡ kept_list (received_list (script_on p session)) run.line.overruns.items
  pub shown : AreShown (flip_on p session) 0 0 run.line.overruns.items
  pub seen : AreSeen p session run.journal.items run.line.overruns.items
  pub arrived : run.line.arrived ≡ arrival_count (script_on p session)
  pub fifo_lost : run.line.fifo_lost ≡ lost_count (script_on p session)
  pub sent : run.line.sent ≡ length (kept_list (received_list (script_on p session)) run.line.overruns.items)

-- a legal run, which leads to this terminal
pub record IsLegal (p : ℕ) (session : PlainSession) (run : PortRun) (t : Terminal) : Type 0 where
  pub on_the_way : IsOnTheWay p session run.journal.items t
  pub account : IsAccounted p session run

-- the run of a port is legal: it leads to some terminal
abbrev pub IsLegalOn : ℕ → PlainSession → PortRun → Type 0
IsLegalOn p session run = (t : Terminal) × IsLegal p session run t
