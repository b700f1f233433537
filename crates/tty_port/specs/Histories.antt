-- A port as the value of a cell. Its journal is the history: each entry with the seat of its maker, the generation that
-- stands since, and the call that the port keeps for it. Its name is what never changes.
use Rattle.std.specs.Prelude.{ℕ, ◌+◌, List, [], ◌∷◌, Option, None, if◌then◌else◌}
use Rattle.tty_calls.specs.declared.journals.Who.{Who}
use Rattle.tty_calls.specs.declared.journals.Who.TheVariants.{Caller, Flusher, Line, Clock, Session}
use Rattle.tty_calls.specs.Plain.{PlainCall, PlainEntry}
use Rattle.tty_terminal.specs.Runs.{is_of_call}
use Rattle.port_core.specs.Ports.{PortValue, call_in}
use Rattle.port_cell.specs.declared.kept.Stamped.{Stamped}
use Rattle.tty_port.specs.Inside.{Name, EntryWithCall}
use Rattle.tty_port.specs.declared.kept_port.KeptPort.{KeptPort}

-- the seat of a maker, where m callers have seats: each caller the one of its number, and flusher, line, clock and
-- session the four after them
abbrev pub seat_of : ℕ → Who → ℕ
seat_of m (Caller c) = c
seat_of m Flusher = m
seat_of m Line = m + 1
seat_of m Clock = m + 2
seat_of m Session = m + 3

abbrev pub call_by : (ℕ → ℕ → Option PlainCall) → Who → ℕ → Option PlainCall
call_by calls (Caller c) step = calls c step
call_by calls Flusher step = None
call_by calls Line step = None
call_by calls Clock step = None
call_by calls Session step = None

-- the call that an entry is of
abbrev pub call_for : (ℕ → ℕ → Option PlainCall) → PlainEntry → Option PlainCall
call_for calls e = if is_of_call e.event then call_by calls e.who e.step else None

abbrev pub stamped_entry : ℕ → (ℕ → ℕ → Option PlainCall) → PlainEntry → ℕ → Stamped EntryWithCall
stamped_entry m calls e after =
    record { seat = seat_of m e.who; after = after; what = record { entry = e; call = call_for calls e } }

-- the generation in which the first of these entries was made, or else that of now
abbrev pub generation_next : List PlainEntry → ℕ → ℕ
generation_next [] now = now
generation_next (e ∷ es) now = e.generation

-- a journal as a history, in the generation of now
abbrev pub history : ℕ → (ℕ → ℕ → Option PlainCall) → List PlainEntry → ℕ → List (Stamped EntryWithCall)
history m calls [] now = []
history m calls (e ∷ es) now = stamped_entry m calls e (generation_next es now) ∷ history m calls es now

-- the history of a port, where m callers have seats
abbrev pub history_in : ℕ → PortValue → List (Stamped EntryWithCall)
history_in m v = history m (call_in v.kept) v.journal v.terminal.generation

abbrev pub name_in : ℕ → PortValue → Name
name_in m v = record { counts = v.counts; limit = v.limit; callers = m; ring = v.flip.ring; capacity = v.flip.capacity }

abbrev pub history_of : KeptPort → List (Stamped EntryWithCall)
history_of p = history_in p.callers p.port.value

abbrev pub name_of : KeptPort → Name
name_of p = name_in p.callers p.port.value
