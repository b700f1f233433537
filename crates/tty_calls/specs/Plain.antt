-- Calls, answers and entries as plain data: lists in place of lists with room.
use Rattle.std.specs.Prelude.{ℕ, List, [], Bool, true, false, ◌==◌}
use Rattle.tty_base.specs.declared.characters.Flagged.{Flagged}
use Rattle.tty_base.specs.declared.counters.Counts.{Counts}
use Rattle.tty_base.specs.declared.counters.Errno.{Errno}
use Rattle.tty_modes.specs.Settings.{Settings}
use Rattle.tty_modes.specs.declared.words.Word.{Word}
use Rattle.tty_calls.specs.declared.calls.Access.{Access}
use Rattle.tty_calls.specs.declared.calls.When.{When}
use Rattle.tty_calls.specs.declared.calls.Queue.{Queue}
use Rattle.tty_calls.specs.declared.calls.Act.{Act}
use Rattle.tty_calls.specs.declared.calls.Call.{Call}
use Rattle.tty_calls.specs.declared.calls.Call.TheVariants as calls
use Rattle.tty_calls.specs.declared.answers.Answer.{Answer}
use Rattle.tty_calls.specs.declared.answers.Answer.TheVariants as answers
use Rattle.tty_calls.specs.declared.answers.AnswerRef.{AnswerRef}
use Rattle.tty_calls.specs.declared.answers.AnswerRef.TheVariants as refs
use Rattle.tty_calls.specs.declared.journals.Who.{Who}
use Rattle.tty_calls.specs.declared.journals.Who.TheVariants.{Caller, Flusher, Line, Clock, Session}
use Rattle.tty_calls.specs.declared.journals.Event.{Event}
use Rattle.tty_calls.specs.declared.journals.Event.TheVariants as events
use Rattle.tty_calls.specs.declared.journals.Entry.{Entry}

pub data PlainCall : Type 0 where
  opens : (h : ℕ) (access : Access) (nonblock : Bool) → PlainCall
  closes : (h : ℕ) → PlainCall
  reads : (h n : ℕ) → PlainCall
  writes : (h : ℕ) (bytes : List ℕ) → PlainCall
  gets_modes : (h : ℕ) → PlainCall
  sets_modes : (h : ℕ) (when : When) (words : List Word) → PlainCall
  gets_disc : (h : ℕ) → PlainCall
  sets_disc : (h number : ℕ) → PlainCall
  flushes : (h : ℕ) (queue : Queue) → PlainCall
  steers : (h : ℕ) (act : Act) → PlainCall
  counts_input : (h : ℕ) → PlainCall
  counts_output : (h : ℕ) → PlainCall
  excludes : (h : ℕ) → PlainCall
  admits : (h : ℕ) → PlainCall
  drains : (h : ℕ) → PlainCall
  gets_counts : (h : ℕ) → PlainCall
  hangs_up : (h : ℕ) → PlainCall
  sends_packet : (h : ℕ) (bytes : List ℕ) → PlainCall
  takes_packet : (h : ℕ) → PlainCall

pub data PlainAnswer : Type 0 where
  done : PlainAnswer
  count_is : (taken : ℕ) → PlainAnswer
  got : (bytes : List ℕ) → PlainAnswer
  number_is : (n : ℕ) → PlainAnswer
  modes_are : (modes : Settings) → PlainAnswer
  counts_are : (counts : Counts) → PlainAnswer
  refused : (errno : Errno) → PlainAnswer
  idle : PlainAnswer

pub data PlainEvent : Type 0 where
  answered : (answer : PlainAnswer) (dropped : List Flagged) → PlainEvent
  parted : (taken : ℕ) → PlainEvent
  waited : PlainEvent
  flushed : (chars : List Flagged) → PlainEvent
  ticked : PlainEvent
  line_ended : (sent : ℕ) → PlainEvent
  clock_ended : PlainEvent
  caller_ended : PlainEvent
  phase_ended : PlainEvent
  hung_up : (dropped : List Flagged) → PlainEvent

pub record PlainEntry : Type 0 where
  pub who : Who
  pub step : ℕ
  pub part : ℕ
  pub generation : ℕ
  pub event : PlainEvent

abbrev pub call_of : Call → PlainCall
call_of (calls.Open h access nonblock) = opens h access nonblock
call_of (calls.Close h) = closes h
call_of (calls.Read h n) = reads h n
call_of (calls.Write h bytes) = writes h bytes.now
call_of (calls.GetModes h) = gets_modes h
call_of (calls.SetModes h when words) = sets_modes h when words.now
call_of (calls.GetDisc h) = gets_disc h
call_of (calls.SetDisc h number) = sets_disc h number
call_of (calls.Flush h queue) = flushes h queue
call_of (calls.Xonc h act) = steers h act
call_of (calls.Inq h) = counts_input h
call_of (calls.Outq h) = counts_output h
call_of (calls.Excl h) = excludes h
call_of (calls.Nxcl h) = admits h
call_of (calls.Drain h) = drains h
call_of (calls.Counts h) = gets_counts h
call_of (calls.Vhangup h) = hangs_up h
call_of (calls.SendPacket h bytes) = sends_packet h bytes.now
call_of (calls.TakePacket h) = takes_packet h

-- the number of the handle that a call names
abbrev pub handle_of : PlainCall → ℕ
handle_of (opens h access nonblock) = h
handle_of (closes h) = h
handle_of (reads h n) = h
handle_of (writes h bytes) = h
handle_of (gets_modes h) = h
handle_of (sets_modes h when words) = h
handle_of (gets_disc h) = h
handle_of (sets_disc h number) = h
handle_of (flushes h queue) = h
handle_of (steers h act) = h
handle_of (counts_input h) = h
handle_of (counts_output h) = h
handle_of (excludes h) = h
handle_of (admits h) = h
handle_of (drains h) = h
handle_of (gets_counts h) = h
handle_of (hangs_up h) = h
handle_of (sends_packet h bytes) = h
handle_of (takes_packet h) = h

-- whether a call may change the line discipline, and with it the generation
abbrev pub changes : PlainCall → Bool
changes (opens h access nonblock) = false
changes (closes h) = true
changes (reads h n) = false
changes (writes h bytes) = false
changes (gets_modes h) = false
changes (sets_modes h when words) = false
changes (gets_disc h) = false
changes (sets_disc h number) = true
changes (flushes h queue) = false
changes (steers h act) = false
changes (counts_input h) = false
changes (counts_output h) = false
changes (excludes h) = false
changes (admits h) = false
changes (drains h) = false
changes (gets_counts h) = false
changes (hangs_up h) = true
changes (sends_packet h bytes) = false
changes (takes_packet h) = false

abbrev pub answer_of : Answer → PlainAnswer
answer_of answers.Done = done
answer_of (answers.Count taken) = count_is taken
answer_of (answers.Got bytes) = got bytes.items
answer_of (answers.Number n) = number_is n
answer_of (answers.ModesAre modes) = modes_are modes
answer_of (answers.CountsAre counts) = counts_are counts.value
answer_of (answers.Refused errno) = refused errno
answer_of answers.Idle = idle

-- the bytes that an answer gives
abbrev pub bytes_in : PlainAnswer → List ℕ
bytes_in done = []
bytes_in (count_is taken) = []
bytes_in (got bytes) = bytes
bytes_in (number_is n) = []
bytes_in (modes_are modes) = []
bytes_in (counts_are counts) = []
bytes_in (refused errno) = []
bytes_in idle = []

abbrev pub answer_lent : AnswerRef → PlainAnswer
answer_lent refs.Done = done
answer_lent (refs.Count taken) = count_is taken
answer_lent (refs.Got bytes) = got bytes.now
answer_lent (refs.Number n) = number_is n
answer_lent (refs.ModesAre modes) = modes_are modes.now
answer_lent (refs.CountsAre counts) = counts_are counts.now
answer_lent (refs.Refused errno) = refused errno
answer_lent refs.Idle = idle

abbrev pub event_of : Event → PlainEvent
event_of (events.Answer answer dropped) = answered (answer_lent answer) dropped.now
event_of (events.Part taken) = parted taken
event_of events.Wait = waited
event_of (events.Flush chars) = flushed chars.now
event_of events.Tick = ticked
event_of (events.LineEnd sent) = line_ended sent
event_of events.ClockEnd = clock_ended
event_of events.CallerEnd = caller_ended
event_of events.PhaseEnd = phase_ended
event_of (events.Hangup dropped) = hung_up dropped.now

-- the bytes that an event gives
abbrev pub bytes_by : PlainEvent → List ℕ
bytes_by (answered a dropped) = bytes_in a
bytes_by other = []

-- the characters that an event takes out of the flip buffer
abbrev pub chars_in : PlainEvent → List Flagged
chars_in (answered a dropped) = dropped
chars_in (flushed chars) = chars
chars_in (hung_up dropped) = dropped
chars_in other = []

abbrev pub entry_of : Entry → PlainEntry
entry_of e = record { who = e.who; step = e.step; part = e.part; generation = e.generation; event = event_of e.event }

-- whether the caller of this number made an entry
abbrev pub is_caller : Who → ℕ → Bool
is_caller (Caller number) c = number == c
is_caller Flusher c = false
is_caller Line c = false
is_caller Clock c = false
is_caller Session c = false
