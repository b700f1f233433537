-- The order of one thread for ports with modem lines: whose turn it is, and to do what.
use Rattle.std.specs.Prelude.{◌≡◌, ℕ, ◌+◌, ◌==◌, ◌||◌, nat_le, Bool, false, not, ◌&&◌, Option}
use Rattle.std.specs.Prelude.{None, Some, List, [], ◌∷◌, length, slice_get, take, if◌then◌else◌}
use Rattle.tty_base.specs.declared.lines.Overrun.{Overrun}
use Rattle.tty_calls.specs.declared.journals.Who.{Who}
use Rattle.tty_calls.specs.declared.journals.Who.TheVariants.{Caller, Flusher, Clock, Session}
use Rattle.tty_calls.specs.Plain.{PlainCall, PlainEvent, answered, parted, waited, flushed, ticked, line_ended}
use Rattle.tty_calls.specs.Plain.{clock_ended, caller_ended, phase_ended, hung_up, PlainEntry}
use Rattle.tty_calls.specs.Sessions.{PlainSession, call_at}
use Rattle.tty_terminal.specs.Terminals.{Terminal, caller_at}
use Rattle.tty_terminal.specs.Steps.{nothing_to_flush}
use Rattle.legal_runs.specs.Order.{must_wait, is_waiting, Place, turn, first_place, next_place, place_after, IsPieceOf}
use Rattle.legal_runs.specs.Order.{AllSeeAll}
use Rattle.modem_lines.specs.Lines.{Lines}
use Rattle.passed_calls.specs.Journals.{terminal_at}
use Rattle.passed_calls.specs.Logs.{logged_on}
use Rattle.passed_calls.specs.Scripts.{plain, further}
use Rattle.modem_text.specs.Events.{ModemEvent, pin_set, own, passed, carrier_lost, ModemLog}
use Rattle.modem_text.specs.Sessions.{ModemCall}
use Rattle.modem_steps.specs.Derived.{carrier_on, derived}
use Rattle.modem_steps.specs.Steps.{ModemState, Port, PlacedItem, items_on, next_call}
use Rattle.modem_steps.specs.Steps.{waits_for_carrier, callers_in, first_state, after_event}

-- somebody makes an entry, or a caller a call that the port does not see; the next item of the modem block is done;
-- or a caller is told that its open waits for the carrier in vain
pub data Turn : Type 0 where
  goes_on : (who : Who) → Turn
  sets_pin : Turn
  is_told : (caller : ℕ) → Turn

-- a caller that is not over, and whose next call is an open that waits for the carrier
abbrev pub is_held_with : Lines → Terminal → Option ModemCall → ℕ → Bool
is_held_with lines t call c = not (caller_at t c).over && waits_for_carrier lines t call

-- one that is not over, and does not wait with its next call, or need not wait any more
abbrev pub goes_on_with : Lines → (calls : ℕ → ℕ → Option PlainCall) → Terminal → Option ModemCall → ℕ → Bool
goes_on_with lines calls t call c =
    not (caller_at t c).over
    && (if is_waiting t c then not (must_wait calls t c) else not (waits_for_carrier lines t call))

abbrev pub open_is_held : Port → ModemState → Terminal → ℕ → Bool
open_is_held port s t c = is_held_with s.lines t (next_call port s t c) c

abbrev pub can_go_on : Port → ModemState → Terminal → ℕ → Bool
can_go_on port s t c = goes_on_with s.lines port.journal.calls t (next_call port s t c) c

-- an item of the modem block of this phase is left
abbrev pub is_of_phase : ℕ → Option PlacedItem → Bool
is_of_phase phase None = false
is_of_phase phase (Some item) = item.phase == phase

abbrev pub has_item : Port → ModemState → Terminal → Bool
has_item port s t = is_of_phase t.phase (slice_get (items_on port) s.items)

-- the first of these callers that is such a one, or else another's turn
abbrev pub first_such : (ℕ → Bool) → (ℕ → Turn) → List ℕ → Turn → Turn
first_such is_such turn_of [] other = other
first_such is_such turn_of (c ∷ cs) other = if is_such c then turn_of c else first_such is_such turn_of cs other

-- what comes where nothing else is left: the clock, an open that waits in vain, a call that waits in vain, and the end
-- of the phase
abbrev pub turn_in_vain : Port → ModemState → Terminal → List ℕ → Turn
turn_in_vain port s t callers =
    if not t.clock_over then goes_on Clock
    else first_such (open_is_held port s t) is_told callers
    (first_such (is_waiting t) (λ c. goes_on (Caller c)) callers (goes_on Session))

-- what comes where no caller can go on: the next item, the end of `carrier`, or what comes in vain
abbrev pub turn_of_others : Port → ModemState → Terminal → List ℕ → Turn
turn_of_others port s t callers =
    if has_item port s t then sets_pin
    else if not (caller_at t (carrier_on port.number port.session)).over then goes_on
    (Caller (carrier_on port.number port.session))
    else turn_in_vain port s t callers

-- the hangup that is due, else a flush, else the first caller in the text's order that can go on, else the others
abbrev pub turn_by_rank : Port → ModemState → Terminal → Turn
turn_by_rank port s t =
    if not (length s.due == 0) then goes_on (Caller (carrier_on port.number port.session))
    else if not (nothing_to_flush t) then goes_on Flusher
    else first_such (can_go_on port s t) (λ c. goes_on (Caller c)) (callers_in port t.phase)
    (turn_of_others port s t (callers_in port t.phase))

-- after so many entries of a journal
abbrev pub turn_at : Port → ModemState → (at : ℕ) → Turn
turn_at port s at = turn_by_rank port s (terminal_at port.journal at)

-- ---- journals and logs in order

-- a call of which a part was taken goes on
abbrev pub after_part_of : PlainEvent → Who → Turn → Turn
after_part_of (parted taken) who other = goes_on who
after_part_of (answered a dropped) who other = other
after_part_of waited who other = other
after_part_of (flushed chars) who other = other
after_part_of ticked who other = other
after_part_of (line_ended n) who other = other
after_part_of clock_ended who other = other
after_part_of caller_ended who other = other
after_part_of phase_ended who other = other
after_part_of (hung_up dropped) who other = other

abbrev pub after_part : Option PlainEntry → Turn → Turn
after_part None other = other
after_part (Some e) other = after_part_of e.event e.who other

-- Before the line's end, and past the last phase, the order is that of the session that was played.
abbrev pub modem_turn : PlainSession → Port → ModemState → Place → Turn
modem_turn played port s place =
    if nat_le (length played.phases) place.terminal.phase || not place.terminal.line_over
    then goes_on (turn port.number played place)
    else after_part place.before (turn_by_rank port s place.terminal)

-- the state after the events that were logged after at most so many entries
abbrev pub state_before : Port → ModemState → ModemLog → (at : ℕ) → ModemState
state_before port s [] at = s
state_before port s (l ∷ log) at =
    if nat_le l.at at then state_before port (after_event port s l.at l.event) log at else s

-- each entry in its turn: the place and the number of the entries before it
abbrev pub AreEntriesInTurn : PlainSession → Port → ModemLog → Place → (n : ℕ) → List PlainEntry → Type 0
AreEntriesInTurn played port log place n [] = Unit {0}
AreEntriesInTurn played port log place n (e ∷ es) =
    (modem_turn played port (state_before port (first_state port.number port.session) log n) place ≡ goes_on e.who)
    × IsPieceOf port.number played place e.part e.event
    × AreEntriesInTurn played port log (next_place (call_at port.number played) place e) (n + 1) es

-- a call of modem lines is made in its caller's turn; an open is told that no carrier comes
abbrev pub own_turn : Option ModemCall → ℕ → Turn
own_turn None c = goes_on (Caller c)
own_turn (Some (plain call)) c = is_told c
own_turn (Some (further call)) c = goes_on (Caller c)

-- an event that no entry tells of, in its turn
abbrev pub IsEventInTurn : PlainSession → Port → ModemState → Place → ModemEvent → Type 0
IsEventInTurn played port s place (pin_set pin up) = modem_turn played port s place ≡ sets_pin
IsEventInTurn played port s place (own c step answer) =
    modem_turn played port s place ≡ own_turn (next_call port s place.terminal c) c
IsEventInTurn played port s place (passed c step answer) = Unit {0}
IsEventInTurn played port s place (carrier_lost h) = Unit {0}

abbrev pub place_at : PlainSession → Port → (at : ℕ) → Place
place_at played port at =
    place_after (call_at port.number played) (first_place port.number played) (take at port.journal.entries)

abbrev pub AreEventsInTurn : PlainSession → Port → ModemState → ModemLog → Type 0
AreEventsInTurn played port s [] = Unit {0}
AreEventsInTurn played port s (l ∷ log) =
    IsEventInTurn played port s (place_at played port l.at) l.event
    × AreEventsInTurn played port (after_event port s l.at l.event) log

-- a port's journal and the log beside it, in the session that was played
pub record AreInModemTurn (played : PlainSession) (port : Port) (log : ModemLog) : Type 0 where
  pub entries : AreEntriesInTurn played port (logged_on port.number log) (first_place port.number played) 0
      port.journal.entries
  pub events : AreEventsInTurn played port (first_state port.number port.session) (logged_on port.number log)

-- .. with the overruns of its line
pub record IsInModemOrder (port : Port) (log : ModemLog) (overruns : List Overrun) : Type 0 where
  pub turns : AreInModemTurn (derived port.session log) port log
  pub seen : AllSeeAll port.number (derived port.session log) port.journal.entries overruns
