-- The step of the terminal: when an entry may stand, and what it does. Calls are found by their
-- caller and step; `counts` has the number of callers of each phase.
use Rattle.std.specs.Prelude.{◌≡◌, ℕ, List, Bool, IsTrue, true, false, ◌&&◌, ◌||◌, not, Option, None, Some, is_some}
use Rattle.std.specs.Prelude.{◌==◌, nat_le, ◌+◌, ◌-◌, ◌<◌, ◌≤◌, if◌then◌else◌, length, map, count_by, slice_index_or}
use Rattle.std.specs.Prelude.{slice_set}
use Rattle.tty_base.specs.Sizes.{PIECE}
use Rattle.tty_base.specs.declared.characters.Flagged.{Flagged}
use Rattle.tty_calls.specs.declared.journals.Who.{Who}
use Rattle.tty_calls.specs.declared.journals.Who.TheVariants.{Caller, Flusher, Line, Clock, Session}
use Rattle.tty_calls.specs.Plain.{PlainCall, handle_of, PlainAnswer, idle, PlainEvent, answered, parted, waited}
use Rattle.tty_calls.specs.Plain.{flushed, ticked, line_ended, clock_ended, caller_ended, phase_ended, hung_up}
use Rattle.tty_calls.specs.Plain.{PlainEntry}
use Rattle.tty_terminal.specs.declared.callers.Bound.{Bound}
use Rattle.tty_terminal.specs.declared.callers.CallerState.{CallerState}
use Rattle.tty_terminal.specs.declared.callers.Piece.{Piece}
use Rattle.tty_terminal.specs.Terminals.{Terminal, handle_at, caller_at, has_begun, is_over, is_resting, live_count}
use Rattle.tty_terminal.specs.Receiving.{accepts, after_characters, AcceptsAll, after_ixoff}
use Rattle.tty_terminal.specs.Generations.{after_hangup}
use Rattle.tty_terminal.specs.Outcomes.{Outcome, unknown, waits, takes, gives}
use Rattle.tty_terminal.specs.Calls.{outcome_of}

abbrev pub callers_in : List ℕ → ℕ → ℕ
callers_in counts phase = slice_index_or counts phase 0

-- no character is left that could be flushed
abbrev pub nothing_to_flush : Terminal → Bool
nothing_to_flush t = (t.taken == t.sent) || ((live_count t == 0) || not (accepts t))

-- line and clock are over, every caller of the phase is over or waits, and nothing is left to flush
abbrev pub quiet_with : ℕ → Terminal → Bool
quiet_with callers t =
    t.line_over && (t.clock_over && (nat_le callers (count_by is_resting t.callers) && nothing_to_flush t))

abbrev pub quiet : List ℕ → Terminal → Bool
quiet counts t = quiet_with (callers_in counts t.phase) t

-- line and clock are over, every caller of the phase is over, and nothing is left to flush
abbrev pub may_end_with : ℕ → Terminal → Bool
may_end_with callers t =
    t.line_over && (t.clock_over && (nat_le callers (count_by is_over t.callers) && nothing_to_flush t))

abbrev pub may_end : List ℕ → Terminal → Bool
may_end counts t = may_end_with (callers_in counts t.phase) t

-- the answer is that of the outcome, or idle where the call must wait and may be told so
abbrev pub Answers : Bool → Outcome → PlainAnswer → Type 0
Answers may unknown a = ⊥
Answers may waits a = (a ≡ idle) × (may ≡ true)
Answers may (takes taken left) a = ⊥
Answers may (gives answer drops left) a = a ≡ answer

-- How many characters an answer drops, where it drops any: what a look at the flip buffer shows. That is no more than
-- the buffer holds, at least what is known to be sent, and exactly that once the line is over.
abbrev pub DropsAt : Terminal → Bool → ℕ → Type 0
DropsAt t false n = n ≡ 0
DropsAt t true n = (t.sent - t.taken ≤ n) × (n ≤ t.capacity) × (IsTrue t.line_over → n ≡ t.sent - t.taken)

abbrev pub Drops : Terminal → Outcome → ℕ → Type 0
Drops t unknown n = n ≡ 0
Drops t waits n = n ≡ 0
Drops t (takes taken left) n = n ≡ 0
Drops t (gives answer drops left) n = DropsAt t drops n

abbrev pub MustWait : Outcome → Type 0
MustWait unknown = ⊥
MustWait waits = Unit {0}
MustWait (takes taken left) = ⊥
MustWait (gives answer drops left) = ⊥

-- whether a call must wait
abbrev pub is_wait : Outcome → Bool
is_wait unknown = false
is_wait waits = true
is_wait (takes taken left) = false
is_wait (gives answer drops left) = false

abbrev pub TakesPart : Outcome → ℕ → Type 0
TakesPart unknown n = ⊥
TakesPart waits n = ⊥
TakesPart (takes taken left) n = n ≡ taken
TakesPart (gives answer drops left) n = ⊥

-- what an outcome leaves of a terminal; the rule for ixoff follows each answer, and neither a part nor a wait
abbrev pub left_by : Outcome → Terminal → Terminal
left_by unknown t = t
left_by waits t = t
left_by (takes taken left) t = left
left_by (gives answer drops left) t = after_ixoff left

-- the caller's next step, by a caller whose calls of this phase are not over
pub record IsNext (t : Terminal) (c step part : ℕ) : Type 0 where
  pub known : c < length t.callers
  pub at_step : step ≡ (caller_at t c).next
  pub at_part : part ≡ (caller_at t c).parts
  pub not_over : (caller_at t c).over ≡ false

pub record IsAnswer (calls : ℕ → ℕ → Option PlainCall) (counts : List ℕ) (t : Terminal) (c step part : ℕ)
    (a : PlainAnswer) (dropped : List Flagged) : Type 0 where
  pub next : IsNext t c step part
  pub answer : Answers (is_some (caller_at t c).waits && quiet counts t) (outcome_of t (caller_at t c) (calls c step)) a
  pub drops : Drops t (outcome_of t (caller_at t c) (calls c step)) (length dropped)

pub record IsPart (calls : ℕ → ℕ → Option PlainCall) (t : Terminal) (c step part taken : ℕ) : Type 0 where
  pub next : IsNext t c step part
  pub takes : TakesPart (outcome_of t (caller_at t c) (calls c step)) taken

-- the call must wait, and does not wait yet
pub record IsWait (calls : ℕ → ℕ → Option PlainCall) (t : Terminal) (c step part : ℕ) : Type 0 where
  pub next : IsNext t c step part
  pub first : (caller_at t c).waits ≡ None
  pub must : MustWait (outcome_of t (caller_at t c) (calls c step))

-- the next piece of the latest flush run, or the first of the next one
abbrev pub follows : Option Piece → ℕ → ℕ → Bool
follows None run part = (run == 0) && (part == 0)
follows (Some p) run part = ((run == p.run) && (part == p.part + 1)) || ((run == p.run + 1) && (part == 0))

pub record IsFlush (t : Terminal) (run part : ℕ) (chars : List Flagged) : Type 0 where
  pub live : 0 < live_count t
  pub some : 0 < length chars
  pub few : length chars ≤ PIECE
  pub accepted : AcceptsAll t chars
  pub numbered : IsTrue (follows t.flushed run part)
  -- after the line's end no more than what was sent
  pub sent : IsTrue t.line_over → t.taken + length chars ≤ t.sent

-- of the phase that runs, and the one entry of its kind
pub record IsOfPhase (t : Terminal) (step part : ℕ) : Type 0 where
  pub at_step : step ≡ t.phase
  pub at_part : part ≡ 0

pub record IsTick (t : Terminal) (step part : ℕ) : Type 0 where
  pub phase : IsOfPhase t step part
  pub not_over : t.clock_over ≡ false

pub record IsLineEnd (t : Terminal) (step part n : ℕ) : Type 0 where
  pub phase : IsOfPhase t step part
  pub not_over : t.line_over ≡ false
  pub taken : t.taken ≤ n
  pub sent : t.sent ≤ n
  -- no more than the flip buffer holds beside what was taken
  pub fits : n ≤ t.taken + t.capacity

-- a caller that is between two calls. One that waits has begun a call
pub record IsCallerEnd (t : Terminal) (c step part : ℕ) : Type 0 where
  pub known : c < length t.callers
  pub at_step : step ≡ (caller_at t c).next
  pub at_part : part ≡ 0
  pub not_over : (caller_at t c).over ≡ false
  pub between : has_begun (caller_at t c) ≡ false

pub record IsPhaseEnd (counts : List ℕ) (t : Terminal) (step part : ℕ) : Type 0 where
  pub phase : IsOfPhase t step part
  pub may : may_end counts t ≡ true

-- the session's, after the last phase
pub record IsHangup (counts : List ℕ) (t : Terminal) (step part : ℕ) (dropped : List Flagged) : Type 0 where
  pub after : length counts ≤ t.phase
  pub at_step : step ≡ length counts
  pub at_part : part ≡ 0
  pub all : length dropped ≡ t.sent - t.taken

abbrev pub ByCaller : Who → (ℕ → Type 0) → Type 0
ByCaller (Caller c) P = P c
ByCaller Flusher P = ⊥
ByCaller Line P = ⊥
ByCaller Clock P = ⊥
ByCaller Session P = ⊥

abbrev pub IsAllowed : (ℕ → ℕ → Option PlainCall) → List ℕ → Terminal → Who → ℕ → ℕ → PlainEvent → Type 0
IsAllowed calls counts t who step part (answered a dropped) =
    ByCaller who (λ c. IsAnswer calls counts t c step part a dropped)
IsAllowed calls counts t who step part (parted taken) = ByCaller who (λ c. IsPart calls t c step part taken)
IsAllowed calls counts t who step part waited = ByCaller who (λ c. IsWait calls t c step part)
IsAllowed calls counts t who step part (flushed chars) = (who ≡ Flusher) × IsFlush t step part chars
IsAllowed calls counts t who step part ticked = (who ≡ Clock) × IsTick t step part
IsAllowed calls counts t who step part (line_ended n) = (who ≡ Line) × IsLineEnd t step part n
IsAllowed calls counts t who step part clock_ended = (who ≡ Clock) × IsTick t step part
IsAllowed calls counts t who step part caller_ended = ByCaller who (λ c. IsCallerEnd t c step part)
IsAllowed calls counts t who step part phase_ended = (who ≡ Session) × IsPhaseEnd counts t step part
IsAllowed calls counts t who step part (hung_up dropped) = (who ≡ Session) × IsHangup counts t step part dropped

-- the call is answered: its handle, its bytes and its wait are forgotten
abbrev pub caller_after_answer : CallerState → CallerState
caller_after_answer s =
    record { next = s.next + 1; over = s.over; waits = None; parts = 0; taken = 0; generation = 0; bound = None }

abbrev pub with_caller : Terminal → ℕ → CallerState → Terminal
with_caller t c s = record t { callers = slice_set t.callers c s }

abbrev pub after_answer : Terminal → ℕ → Terminal
after_answer t c = with_caller t c (caller_after_answer (caller_at t c))

-- a call keeps the handle that it began with from its first wait or part on
abbrev pub bound_at : Terminal → Option Bound → ℕ → Option Bound
bound_at t None h = Some (record { h = h; handle = handle_at t h })
bound_at t (Some b) h = Some b

-- the caller waits from now on, with a call on this handle
abbrev pub caller_after_wait : Terminal → CallerState → ℕ → CallerState
caller_after_wait t s h = record s { waits = Some t.tick; bound = bound_at t s.bound h }

-- a part of the caller's write on this handle was taken, of n bytes
abbrev pub caller_after_part : Terminal → CallerState → ℕ → ℕ → CallerState
caller_after_part t s h n =
    record s {
      waits = None;
      parts = s.parts + 1;
      taken = s.taken + n;
      generation = if s.parts == 0 then t.generation else s.generation;
      bound = bound_at t s.bound h;
    }

-- the terminal where the caller's call on the handle h waits from now on
abbrev pub after_wait : Terminal → ℕ → ℕ → Terminal
after_wait t c h = with_caller t c (caller_after_wait t (caller_at t c) h)

-- where a part of the caller's write on the handle h was taken, of n bytes
abbrev pub after_part : Terminal → ℕ → ℕ → ℕ → Terminal
after_part t c h n = with_caller t c (caller_after_part t (caller_at t c) h n)

-- where the caller's calls of the phase are over
abbrev pub after_caller_end : Terminal → ℕ → Terminal
after_caller_end t c = with_caller t c (record (caller_at t c) { over = true })

-- the number of the handle that a call names, where the call is known
abbrev pub handle_number : Option PlainCall → ℕ
handle_number None = 0
handle_number (Some call) = handle_of call

-- a terminal in which so many characters were dropped
abbrev pub with_dropped : Terminal → ℕ → Terminal
with_dropped t n = record t { taken = t.taken + n }

abbrev pub by_caller : Who → Terminal → (ℕ → Terminal) → Terminal
by_caller (Caller c) t f = f c
by_caller Flusher t f = t
by_caller Line t f = t
by_caller Clock t f = t
by_caller Session t f = t

abbrev pub caller_after_phase : CallerState → CallerState
caller_after_phase s = record s { over = false }

abbrev pub next_phase : Terminal → Terminal
next_phase t =
    record t { phase = t.phase + 1; line_over = false; clock_over = false; callers = map caller_after_phase t.callers }

abbrev pub after_event : (ℕ → ℕ → Option PlainCall) → Terminal → Who → ℕ → ℕ → PlainEvent → Terminal
after_event calls t who step part (answered a dropped) =
    by_caller who t
    (λ c. after_answer (with_dropped (left_by (outcome_of t (caller_at t c) (calls c step)) t) (length dropped)) c)
after_event calls t who step part (parted taken) =
    by_caller who t
    (λ c. after_part (left_by (outcome_of t (caller_at t c) (calls c step)) t) c (handle_number (calls c step)) taken)
after_event calls t who step part waited = by_caller who t (λ c. after_wait t c (handle_number (calls c step)))
after_event calls t who step part (flushed chars) =
    record (after_characters t chars) { flushed = Some (record { run = step; part = part }) }
after_event calls t who step part ticked = record t { tick = t.tick + 1 }
after_event calls t who step part (line_ended n) = record t { sent = n; line_over = true }
after_event calls t who step part clock_ended = record t { clock_over = true }
after_event calls t who step part caller_ended = by_caller who t (after_caller_end t)
after_event calls t who step part phase_ended = next_phase t
after_event calls t who step part (hung_up dropped) = with_dropped (after_hangup t) (length dropped)

-- an entry may stand: its generation is that of the terminal, and its event is allowed
abbrev pub Allowed : (ℕ → ℕ → Option PlainCall) → List ℕ → Terminal → PlainEntry → Type 0
Allowed calls counts t e = (e.generation ≡ t.generation) × IsAllowed calls counts t e.who e.step e.part e.event

abbrev pub after : (ℕ → ℕ → Option PlainCall) → Terminal → PlainEntry → Terminal
after calls t e = after_event calls t e.who e.step e.part e.event

-- a step of the terminal
abbrev pub Step : (ℕ → ℕ → Option PlainCall) → List ℕ → Terminal → PlainEntry → Terminal → Type 0
Step calls counts t e u = Allowed calls counts t e × (u ≡ after calls t e)
