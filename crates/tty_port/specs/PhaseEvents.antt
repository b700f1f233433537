-- The events of a phase that are of no call: who makes the entry of each, at which step, and when it can happen.
use Rattle.std.specs.Prelude.{◌≡◌, ℕ, ◌<◌, List, false, sum}
use Rattle.tty_calls.specs.declared.journals.Who.{Who}
use Rattle.tty_calls.specs.declared.journals.Who.TheVariants as who
use Rattle.tty_calls.specs.Plain.{PlainEntry, PlainEvent, ticked, clock_ended, caller_ended}
use Rattle.tty_terminal.specs.Terminals.{caller_at, has_begun}
use Rattle.port_core.specs.Ports.{PortValue, phase_entry, end_entry}
use Rattle.port_cell.specs.declared.kept.Stamped.{Stamped}
use Rattle.tty_port.specs.Inside.{EntryWithCall}
use Rattle.tty_port.specs.Histories.{seat_of}
use Rattle.tty_port.specs.Seen.{standing_at, marks_at, IsBetweenCalls}
use Rattle.tty_port.specs.Adding.{IsEntry}
use Rattle.tty_port.specs.declared.phase_events.PhaseEvent.{PhaseEvent}
use Rattle.tty_port.specs.declared.phase_events.PhaseEvent.TheVariants.{Tick, ClockEnd, CallerEnd}

abbrev pub maker_of : PhaseEvent → Who
maker_of Tick = who.Clock
maker_of ClockEnd = who.Clock
maker_of (CallerEnd c) = who.Caller c

abbrev pub plain_event : PhaseEvent → PlainEvent
plain_event Tick = ticked
plain_event ClockEnd = clock_ended
plain_event (CallerEnd c) = caller_ended

-- The step of its entry: of the clock the phase, as its turn found it, and of a caller the next one, as its seat knew
-- it before.
abbrev pub step_of : PhaseEvent → (seen found : List (Stamped EntryWithCall)) → ℕ
step_of Tick seen found = (marks_at found).phase
step_of ClockEnd seen found = (marks_at found).phase
step_of (CallerEnd c) seen found = (standing_at c seen).next

-- its entry, where m callers have seats
abbrev pub IsEventEntry : ℕ → PhaseEvent → (seen found : List (Stamped EntryWithCall)) → Stamped EntryWithCall → Type 0
IsEventEntry m event seen found =
    IsEntry (seat_of m (maker_of event)) (maker_of event) (step_of event seen found) (plain_event event)

-- who makes it has not ended in the phase; a caller is one of so many, and between two calls
abbrev pub CanFollow : ℕ → PhaseEvent → List (Stamped EntryWithCall) → Type 0
CanFollow count Tick xs = (marks_at xs).clock_over ≡ false
CanFollow count ClockEnd xs = (marks_at xs).clock_over ≡ false
CanFollow count (CallerEnd c) xs = (c < count) × IsBetweenCalls c (standing_at c xs).next xs

-- the same of a port
abbrev pub CanHappen : PhaseEvent → PortValue → Type 0
CanHappen Tick v = v.terminal.clock_over ≡ false
CanHappen ClockEnd v = v.terminal.clock_over ≡ false
CanHappen (CallerEnd c) v =
    (c < sum v.counts) × ((caller_at v.terminal c).over ≡ false) × (has_begun (caller_at v.terminal c) ≡ false)

-- the entry that a port makes of it
abbrev pub entry_of_event : PortValue → PhaseEvent → PlainEntry
entry_of_event v Tick = phase_entry v who.Clock ticked
entry_of_event v ClockEnd = phase_entry v who.Clock clock_ended
entry_of_event v (CallerEnd c) = end_entry v c
