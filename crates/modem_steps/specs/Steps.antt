-- The step of a port with modem lines: which event may be logged next, and what it does.
use Rattle.std.specs.Prelude.{◌≡◌, ℕ, ◌+◌, ◌-◌, ◌==◌, ◌≤◌, ◌<◌, nat_lt, Bool, false, not, ◌&&◌, ◌||◌, IsTrue}
use Rattle.std.specs.Prelude.{Option, None, Some, is_some, List, [], ◌∷◌, ◌++◌, map, filter, length}
use Rattle.std.specs.Prelude.{position, replicate, slice_get, slice_index_or, slice_set, if◌then◌else◌}
use Rattle.std.specs.List.{list_all}
use Rattle.std.specs.Option.{option_to_list}
use Rattle.tty_base.specs.declared.counters.Errno.TheVariants.{EBADF, EIO}
use Rattle.tty_calls.specs.Plain.{PlainCall, opens, closes, hangs_up, PlainAnswer, done, number_is, refused, idle}
use Rattle.handle_table.specs.declared.HandleState.{HandleState}
use Rattle.handle_table.specs.Handles.{is_live}
use Rattle.tty_terminal.specs.Terminals.{Terminal, handle_at, caller_at, has_begun, live_count}
use Rattle.tty_terminal.specs.Steps.{nothing_to_flush}
use Rattle.legal_runs.specs.Order.{must_wait, is_waiting}
use Rattle.modem_lines.specs.declared.pins.Pin.{Pin}
use Rattle.modem_lines.specs.Lines.{Lines, first_lines, with_pin, loses_carrier, may_open, after_open, after_shut}
use Rattle.modem_lines.specs.Lines.{assigned, raised, lowered, modem_bits, status_register, after_status}
use Rattle.passed_calls.specs.Blocks.{names_on, number_on}
use Rattle.passed_calls.specs.Journals.{Journal, terminal_at, IsAnswerAt}
use Rattle.passed_calls.specs.Scripts.{plain, further}
use Rattle.modem_text.specs.declared.items.OwnCall.{OwnCall}
use Rattle.modem_text.specs.declared.items.OwnCall.TheVariants as call
use Rattle.modem_text.specs.Events.{ModemEvent, pin_set, own, passed, carrier_lost, ModemLog}
use Rattle.modem_text.specs.Sessions.{ModemCall, PinStep, ModemPhase, ModemSession, pins_on, blocks_in}
use Rattle.modem_steps.specs.Derived.{carrier_on, call_in_phase}

-- ---- the state of a port beside its terminal

-- its modem lines; after how many entries of its journal the latest event was logged; how many items of its modem
-- blocks are done; each caller's next call; and the handles through which the port is to be hung up next, as the
-- carrier was lost
pub record ModemState : Type 0 where
  pub lines : Lines
  pub at : ℕ
  pub items : ℕ
  pub next : List ℕ
  pub due : List ℕ

abbrev pub first_state : ℕ → ModemSession → ModemState
first_state p session = record {
  lines = first_lines;
  at = 0;
  items = 0;
  next = replicate (length (names_on p (blocks_in session))) 0;
  due = [];
}

abbrev pub next_of : ModemState → ℕ → ℕ
next_of s c = slice_index_or s.next c 0

-- a caller goes on to its next call
abbrev pub answered_for : ModemState → ℕ → ModemState
answered_for s c = record s { next = slice_set s.next c (next_of s c + 1) }

-- ---- the calls of modem lines (ioctl_tty(2), modem control)

-- EBADF without a handle, EIO through a dead one
abbrev pub through : Option HandleState → (given : PlainAnswer) → PlainAnswer
through None given = refused EBADF
through (Some handle) given = if handle.live then given else refused EIO

abbrev pub is_through : Option HandleState → Bool
is_through handle = is_live handle

abbrev pub one_or_zero : Bool → ℕ
one_or_zero b = if b then 1 else 0

-- the handle that a call of modem lines names, what it gives, and what it makes of the lines
abbrev pub modem_handle : OwnCall → ℕ
modem_handle (call.Mget h) = h
modem_handle (call.Mset h bits) = h
modem_handle (call.Mbis h bits) = h
modem_handle (call.Mbic h bits) = h
modem_handle (call.Softcar h on) = h
modem_handle (call.Getcar h) = h
modem_handle (call.Hupcl h on) = h
modem_handle (call.Msr h) = h

abbrev pub modem_gives : Lines → OwnCall → PlainAnswer
modem_gives lines (call.Mget h) = number_is (modem_bits lines)
modem_gives lines (call.Mset h bits) = done
modem_gives lines (call.Mbis h bits) = done
modem_gives lines (call.Mbic h bits) = done
modem_gives lines (call.Softcar h on) = done
modem_gives lines (call.Getcar h) = number_is (one_or_zero lines.clocal)
modem_gives lines (call.Hupcl h on) = done
modem_gives lines (call.Msr h) = number_is (status_register lines)

abbrev pub lines_after_call : Lines → OwnCall → Lines
lines_after_call lines (call.Mget h) = lines
lines_after_call lines (call.Mset h bits) = assigned lines bits
lines_after_call lines (call.Mbis h bits) = raised lines bits
lines_after_call lines (call.Mbic h bits) = lowered lines bits
lines_after_call lines (call.Softcar h on) = record lines { clocal = on }
lines_after_call lines (call.Getcar h) = lines
lines_after_call lines (call.Hupcl h on) = record lines { hupcl = on }
lines_after_call lines (call.Msr h) = after_status lines

-- ---- opens

-- an open that blocks waits for the carrier, unless CLOCAL or the carrier is there, or it would be refused
abbrev pub open_waits : Lines → Terminal → (h : ℕ) → (nonblock : Bool) → Bool
open_waits lines t h nonblock = not (may_open lines nonblock) && not (is_some (handle_at t h)) && not t.exclusive

abbrev pub plain_waits : Lines → Terminal → PlainCall → Bool
plain_waits lines t (opens h access nonblock) = open_waits lines t h nonblock
plain_waits lines t other = false

abbrev pub waits_for_carrier : Lines → Terminal → Option ModemCall → Bool
waits_for_carrier lines t (Some (plain call)) = plain_waits lines t call
waits_for_carrier lines t other = false

-- what an answer of the port makes of the lines: by the first open, a last close and a hangup
abbrev pub lines_after_done : Lines → (live_before live_after : ℕ) → PlainCall → Lines
lines_after_done lines before now (opens h access nonblock) = if before == 0 then after_open lines else lines
lines_after_done lines before now (closes h) = if (nat_lt 0 before) && (now == 0) then after_shut lines else lines
lines_after_done lines before now (hangs_up h) = after_shut lines
lines_after_done lines before now other = lines

abbrev pub lines_after_answer : Lines → (live_before live_after : ℕ) → Option ModemCall → PlainAnswer → Lines
lines_after_answer lines before now (Some (plain call)) done = lines_after_done lines before now call
lines_after_answer lines before now call answer = lines

-- ---- what a port's journal says of an event

-- a port while its log is read: its number and session, and its journal
pub record Port : Type 0 where
  pub number : ℕ
  pub session : ModemSession
  pub journal : Journal

-- the next call of a caller in the phase that runs, where it has one more there
abbrev pub next_call : Port → ModemState → Terminal → ℕ → Option ModemCall
next_call port s t c = call_in_phase port.number port.session t.phase c (next_of s c)

-- ---- an open that is told that no carrier comes

-- the numbers of the callers of a phase
abbrev pub callers_in : Port → (phase : ℕ) → List ℕ
callers_in port k =
    map (λ s. number_on port.number (blocks_in port.session) s.name)
    (filter (λ s. s.port == port.number) (slice_index_or (map (λ phase. phase.callers) port.session.phases) k []))

-- a caller is over, or waits in vain, or waits for the carrier
abbrev pub is_held_up : Port → ModemState → Terminal → ℕ → Bool
is_held_up port s t c =
    (caller_at t c).over
    || (is_waiting t c && must_wait port.journal.calls t c)
    || waits_for_carrier s.lines t (next_call port s t c)

-- line, clock and modem block are over, nothing can be flushed, and each other caller is held up
abbrev pub nobody_goes_on : Port → ModemState → Terminal → ℕ → Bool
nobody_goes_on port s t c =
    t.line_over && t.clock_over && (caller_at t (carrier_on port.number port.session)).over && nothing_to_flush t
    && list_all (λ other. (other == c) || is_held_up port s t other) (callers_in port t.phase)

-- ---- the step

-- the items of a port's modem blocks, each with its phase
pub record PlacedItem : Type 0 where
  pub phase : ℕ
  pub step : PinStep

abbrev pub items_from : ℕ → (phase : ℕ) → List ModemPhase → List PlacedItem
items_from p k [] = []
items_from p k (phase ∷ phases) =
    map (λ step. record { phase = k; step = step }) (pins_on p phase) ++ items_from p (k + 1) phases

abbrev pub items_on : Port → List PlacedItem
items_on port = items_from port.number 0 port.session.phases

-- the least number of a live handle
abbrev pub least_live : Terminal → List ℕ
least_live t = option_to_list (position is_live t.handles)

-- the next item, of the phase that runs, before `carrier` is over there, and where it has begun no hangup
pub record IsPin (port : Port) (s : ModemState) (t : Terminal) (pin : Pin) (up : Bool) : Type 0 where
  pub nothing_due : s.due ≡ []
  pub in_block : (caller_at t (carrier_on port.number port.session)).over ≡ false
  pub between : has_begun (caller_at t (carrier_on port.number port.session)) ≡ false
  pub item : slice_get (items_on port) s.items ≡ Some (record { phase = t.phase; step = record { pin = pin; up = up } })

-- what is answered without the port
abbrev pub OwnAnswer : Port → ModemState → Terminal → ℕ → Option ModemCall → PlainAnswer → Type 0
OwnAnswer port s t c None answer = ⊥
OwnAnswer port s t c (Some (plain call)) answer =
    (answer ≡ idle) × (IsTrue (plain_waits s.lines t call)) × (IsTrue (nobody_goes_on port s t c))
OwnAnswer port s t c (Some (further call)) answer =
    answer ≡ through (handle_at t (modem_handle call)) (modem_gives s.lines call)

-- by a caller that has begun no call of the port
pub record IsOwn (port : Port) (s : ModemState) (t : Terminal) (c step : ℕ) (answer : PlainAnswer) : Type 0 where
  pub nothing_due : s.due ≡ []
  pub next : step ≡ next_of s c
  pub between : has_begun (caller_at t c) ≡ false
  pub answers : OwnAnswer port s t c (next_call port s t c) answer

-- what the port is passed: a call that is for it, and no open that waits for the carrier when it is answered
abbrev pub IsForPort : Option ModemCall → Type 0
IsForPort (Some (plain call)) = Unit {0}
IsForPort other = ⊥

-- an entry of a call by its step in the journal is of this call
abbrev pub IsOfCall : Port → (c step : ℕ) → Option ModemCall → Type 0
IsOfCall port c step (Some (plain call)) = port.journal.calls c step ≡ Some call
IsOfCall port c step other = ⊥

-- The answer is logged before anything else comes, so that the lines are those with which the call went on; and its
-- entry is of this call.
pub record IsPassed (port : Port) (s : ModemState) (at c step : ℕ) (answer : PlainAnswer) : Type 0 where
  pub nothing_due : s.due ≡ []
  pub next : step ≡ next_of s c
  pub for_port : IsForPort (next_call port s (terminal_at port.journal at) c)
  pub entry : IsAnswerAt port.journal c at answer
  pub at_once : s.at < at
  pub of_call : IsOfCall port c entry.entry.step (next_call port s (terminal_at port.journal at) c)
  pub not_held_up : waits_for_carrier s.lines (terminal_at port.journal (at - 1))
      (next_call port s (terminal_at port.journal at) c) ≡ false

-- the hangup that is due
pub record IsLoss (port : Port) (s : ModemState) (at h : ℕ) : Type 0 where
  pub is_due : s.due ≡ h ∷ []
  pub entry : IsAnswerAt port.journal (carrier_on port.number port.session) at done
  pub at_once : at ≡ s.at + 1
  pub of_call : port.journal.calls (carrier_on port.number port.session) entry.entry.step ≡ Some (hangs_up h)

abbrev pub IsAllowed : Port → ModemState → (at : ℕ) → ModemEvent → Type 0
IsAllowed port s at (pin_set pin up) = IsPin port s (terminal_at port.journal at) pin up
IsAllowed port s at (own c step answer) = IsOwn port s (terminal_at port.journal at) c step answer
IsAllowed port s at (passed c step answer) = IsPassed port s at c step answer
IsAllowed port s at (carrier_lost h) = IsLoss port s at h

-- the lines after a call that was answered without the port
abbrev pub lines_after_own : Lines → Terminal → Option ModemCall → Lines
lines_after_own lines t None = lines
lines_after_own lines t (Some (plain call)) = lines
lines_after_own lines t (Some (further call)) =
    if is_through (handle_at t (modem_handle call)) then lines_after_call lines call else lines

abbrev pub after_event : Port → ModemState → (at : ℕ) → ModemEvent → ModemState
after_event port s at (pin_set pin up) =
    record s {
      lines = with_pin s.lines pin up;
      at = at;
      items = s.items + 1;
      due = if loses_carrier s.lines pin up then least_live (terminal_at port.journal at) else [];
    }
after_event port s at (own c step answer) =
    record (answered_for s c) {
      lines = lines_after_own s.lines (terminal_at port.journal at)
          (next_call port s (terminal_at port.journal at) c);
      at = at;
    }
after_event port s at (passed c step answer) =
    record (answered_for s c) {
      lines = lines_after_answer s.lines (live_count (terminal_at port.journal (at - 1)))
          (live_count (terminal_at port.journal at)) (next_call port s (terminal_at port.journal at) c) answer;
      at = at;
    }
after_event port s at (carrier_lost h) = record s { lines = after_shut s.lines; at = at; due = [] }

-- the events of a port are steps, one after the other, and lead from the one state to the other; the places never fall
abbrev pub Leads : Port → ModemState → ModemLog → ModemState → Type 0
Leads port s [] u = u ≡ s
Leads port s (l ∷ log) u =
    (s.at ≤ l.at)
    × (l.at ≤ length port.journal.entries)
    × IsAllowed port s l.at l.event
    × Leads port (after_event port s l.at l.event) log u

-- at its end nothing is due
pub record IsModemRun (port : Port) (log : ModemLog) : Type 0 where
  pub last : ModemState
  pub leads : Leads port (first_state port.number port.session) (filter (λ l. l.port == port.number) log) last
  pub nothing_due : last.due ≡ []
