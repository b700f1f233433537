-- What each thread of a phase did, as its seat knows it: from the history that it had seen at the start.
use Rattle.std.specs.Prelude.{◌≡◌, ◌⊎◌, ℕ, ◌+◌, ◌-◌, ◌≤◌, List, [], ◌∷◌, ◌++◌, true, Some, length, slice_get}
use Rattle.std.specs.List.Sorted.{IsNonDecreasing}
use Rattle.tty_base.specs.Sizes.{MOST_SENT}
use Rattle.tty_base.specs.declared.characters.Flagged.{Flagged}
use Rattle.tty_base.specs.declared.lines.LineStep.{LineStep}
use Rattle.tty_base.specs.Lines.{arrival_count}
use Rattle.word_ring.specs.Ends.{PutterState}
use Rattle.uart_line.specs.LineState.{LineState, HasDone}
use Rattle.uart_line.specs.Received.{received_list, closed_script}
use Rattle.uart_line.specs.Offered.{HandsOver}
use Rattle.tty_calls.specs.declared.journals.Who.TheVariants.{Caller}
use Rattle.tty_calls.specs.Plain.{PlainCall, clock_ended, caller_ended}
use Rattle.tty_terminal.specs.Steps.{may_end}
use Rattle.port_cell.specs.declared.kept.Stamped.{Stamped}
use Rattle.port_cell.specs.Entries.{Keeps, Begins, entries_by}
use Rattle.port_cell.specs.Knowledge.{list_seen, own_entries}
use Rattle.tty_port.specs.Inside.{Name, EntryWithCall}
use Rattle.tty_port.specs.Seen.{marks_at, next_run, terminal_at, IsBetweenCalls}
use Rattle.tty_port.specs.Adding.{IsEntry, IsOfStep}
use Rattle.tty_port.specs.Calls.{PortSeat}
use Rattle.tty_port.specs.Flushing.{FlushesRun, HasNothingLeft, run_past}
use Rattle.tty_port.specs.Lines.{EndsLine, MakesNone}

abbrev pub Each : (Stamped EntryWithCall → Type 0) → List (Stamped EntryWithCall) → Type 0
Each P [] = Unit {0}
Each P (x ∷ xs) = P x × Each P xs

-- ---- a caller

-- an entry of one of these calls of a caller, the first of which has this step
pub record IsOfCalls (c first : ℕ) (calls : List PlainCall) (x : Stamped EntryWithCall) : Type 0 where
  pub place : ℕ
  pub call : PlainCall
  pub called : slice_get calls place ≡ Some call
  pub is : IsOfStep c (first + place) call x

-- an entry of one of the calls, or the caller's end after all of them
abbrev pub IsOfRole : (c first : ℕ) → List PlainCall → Stamped EntryWithCall → Type 0
IsOfRole c first calls x = IsOfCalls c first calls x ⊎ IsEntry c (Caller c) (first + length calls) caller_ended x

-- whatever the caller made was of the calls, or their end
pub record MakesInRole (c first : ℕ) (calls : List PlainCall) (start : List (Stamped EntryWithCall))
    (new : PortSeat) : Type 0 where
  pub begins : Begins start (list_seen new)
  pub made : List (Stamped EntryWithCall)
  pub adds : own_entries new ≡ entries_by c start ++ made
  pub of_role : Each (IsOfRole c first calls) made

-- Each of these calls is answered, one after the other, and then the caller is over.
pub record PlaysCaller (c first : ℕ) (calls : List PlainCall) (start : List (Stamped EntryWithCall))
    (new : PortSeat) : Type 0 where
  pub in_role : MakesInRole c first calls start new
  -- the history as the caller saw it after its last call, and as it found it at its end
  pub seen : List (Stamped EntryWithCall)
  pub begins : Begins start seen
  pub answered : IsBetweenCalls c (first + length calls) seen
  pub before : List (Stamped EntryWithCall)
  pub found : Keeps c seen before
  pub last : Stamped EntryWithCall
  pub added : list_seen new ≡ before ++ last ∷ []
  pub ends : IsEntry c (Caller c) (first + length calls) caller_ended last

-- ---- the clock

-- so many ticks more
pub record MakesTicks (n : ℕ) (start : List (Stamped EntryWithCall)) (new : PortSeat) : Type 0 where
  pub begins : Begins start (list_seen new)
  pub ticks : (marks_at (list_seen new)).tick ≡ (marks_at start).tick + n

-- at most so many ticks, before the clock, whose seat has this number, was denied
pub record StopsClock (seat most : ℕ) (start : List (Stamped EntryWithCall)) (new : PortSeat) : Type 0 where
  pub seen : List (Stamped EntryWithCall)
  pub begins : Begins start seen
  pub count : ℕ
  pub within : count ≤ most
  pub ticks : (marks_at seen).tick ≡ (marks_at start).tick + count
  pub found : Keeps seat seen (list_seen new)

-- so many ticks, and then the clock, whose seat has this number, is over
pub record PlaysClock (seat n : ℕ) (start : List (Stamped EntryWithCall)) (new : PortSeat) : Type 0 where
  pub seen : List (Stamped EntryWithCall)
  pub begins : Begins start seen
  pub ticks : (marks_at seen).tick ≡ (marks_at start).tick + n
  pub before : List (Stamped EntryWithCall)
  pub found : Keeps seat seen before
  pub last : Stamped EntryWithCall
  pub added : list_seen new ≡ before ++ last ∷ []
  pub ends : last.what.entry.event ≡ clock_ended

-- ---- the line

-- The line did these steps and the two that close them, and handed over to this putter all that they gave.
pub record RunsLine (steps : List LineStep) (old new : LineState) (putter now : PutterState Flagged) : Type 0 where
  pub done : (before : List LineStep) → HasDone old before → HasDone new (before ++ closed_script steps)
  pub hands_over : (before : List LineStep)
      → HasDone old before
      → HandsOver putter.capacity (received_list before) (received_list (before ++ closed_script steps)) putter.sent
      now.sent putter.heads now.heads old.report.overruns.items new.report.overruns.items
  pub ring : now.ring ≡ putter.ring
  pub capacity : now.capacity ≡ putter.capacity
  pub most : new.most ≡ old.most
  pub arrived : new.report.arrived ≡ old.report.arrived + arrival_count steps
  pub room : new.most ≤ (MOST_SENT - length now.sent) + new.handed
  pub rise : IsNonDecreasing putter.heads → IsNonDecreasing now.heads

-- the line did these steps, was closed, and then, by the seat with this number, is over with the number of all that was
-- put
pub record PlaysLine (seat : ℕ) (steps : List LineStep) (line played : LineState) (putter now : PutterState Flagged)
    (start : List (Stamped EntryWithCall)) (new : PortSeat) : Type 0 where
  pub met : PutterState Flagged
  pub runs : RunsLine steps line played putter met
  pub before : List (Stamped EntryWithCall)
  pub found : Keeps seat start before
  pub last : Stamped EntryWithCall
  pub added : list_seen new ≡ before ++ last ∷ []
  pub ends : EndsLine seat met now before last

-- ---- the flusher

-- a flush run, with the flusher's seat before and after it
pub record RunMade : Type 0 where
  pub number : ℕ
  pub count : ℕ
  pub before : PortSeat
  pub after : PortSeat

-- The flusher of the port with this name made these flush runs, the latest first, and nothing else. The first has the
-- number `run`, and each other one the number after the run before it, which `next` is after the latest.
abbrev pub FlushesRuns : Name → (run : ℕ) → PortSeat → List RunMade → ℕ → PortSeat → Type 0
FlushesRuns name run start [] next new = (next ≡ run) × MakesNone start new
FlushesRuns name run start (r ∷ runs) next new =
    FlushesRuns name run start runs r.number r.before
    × FlushesRun name r.number r.count r.before r.after
    × (next ≡ run_past r.number r.count)
    × MakesNone r.after new

-- The last of the runs found nothing more to hand over, and the look after it that the phase may end.
pub record PlaysFlusher (name : Name) (run : ℕ) (start : PortSeat) (next : ℕ) (new : PortSeat) : Type 0 where
  pub runs : List RunMade
  pub last : RunMade
  pub flushes : FlushesRuns name run start (last ∷ runs) next new
  pub none : last.count ≡ 0
  pub left : HasNothingLeft (terminal_at name (list_seen last.after))
  pub numbered : next ≡ next_run (list_seen new)
  pub ended : may_end name.counts (terminal_at name (list_seen new)) ≡ true

-- flush runs, the last of which was denied
pub record StopsFlusher (name : Name) (run : ℕ) (start new : PortSeat) : Type 0 where
  pub runs : List RunMade
  pub last : RunMade
  pub next : ℕ
  pub flushes : FlushesRuns name run start (last ∷ runs) next new
