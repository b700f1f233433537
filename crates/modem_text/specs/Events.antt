-- What happened beside ports with modem lines.
use Rattle.std.specs.Prelude.{ℕ, ◌==◌, Bool, List, map, filter}
use Rattle.tty_calls.specs.Plain.{PlainAnswer, answer_of}
use Rattle.modem_lines.specs.declared.pins.Pin.{Pin}
use Rattle.passed_calls.specs.declared.logs.Logged.{Logged}
use Rattle.modem_text.specs.declared.logs.ModemEvent.{ModemEvent as KeptEvent}
use Rattle.modem_text.specs.declared.logs.ModemEvent.TheVariants as kept

-- An item of a modem block is done; a call is answered without the port, which is one of the modem lines, or an open
-- that is told that no carrier comes; the port has answered a call; the carrier was lost, and the port was hung up
-- through this handle.
pub data ModemEvent : Type 0 where
  pin_set : (pin : Pin) (up : Bool) → ModemEvent
  own : (caller step : ℕ) (answer : PlainAnswer) → ModemEvent
  passed : (caller step : ℕ) (answer : PlainAnswer) → ModemEvent
  carrier_lost : (h : ℕ) → ModemEvent

abbrev pub ModemLog : Type 0
ModemLog = List (Logged ModemEvent)

-- what happened on a port, in order
abbrev pub events_on : ℕ → ModemLog → List ModemEvent
events_on p log = map (λ l. l.event) (filter (λ l. l.port == p) log)

-- what an event that is kept is
abbrev pub event_of : KeptEvent → ModemEvent
event_of (kept.Pin pin up) = pin_set pin up
event_of (kept.Own c step answer) = own c step (answer_of answer)
event_of (kept.Passed c step answer) = passed c step (answer_of answer)
event_of (kept.Carrier h) = carrier_lost h

abbrev pub logged_of : Logged KeptEvent → Logged ModemEvent
logged_of l = record { port = l.port; at = l.at; event = event_of l.event }
