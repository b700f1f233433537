-- What a port was passed, as its log is walked: for private functions alone.
use Rattle.std.specs.Prelude.{ℕ, ◌+◌, ◌-◌, List, [], ◌∷◌, ◌++◌, length, replicate, unwrap_or}
use Rattle.tty_calls.specs.declared.journals.PortRun.{PortRun}
use Rattle.tty_calls.specs.Plain.{PlainEntry}
use Rattle.tty_calls.specs.Sessions.{PlainSession, scripts_over, names_of, number_in}
use Rattle.derived_session.specs.declared.passed.PassedDown.{PassedDown}
use Rattle.derived_session.specs.declared.passed.Down.TheVariants as down
use Rattle.derived_session.specs.Begun.{begun_down, one_more, after_all}
use Rattle.modem_text.specs.Events.{ModemEvent, pin_set, own, passed, carrier_lost, ModemLog, events_on}
use Rattle.modem_text.specs.Sessions.{carrier_name}
use Rattle.order_laws.specs.Sessions.{journal_on}

-- what was passed down so far, how many calls of each caller were answered, and how many items of the modem blocks were
-- done; and the number of `carrier`
pub record Walked : Type 0 where
  pub passed : List PassedDown
  pub answered : List ℕ
  pub items : ℕ
  pub carrier : ℕ

abbrev pub first_walk : (callers carrier : ℕ) → Walked
first_walk n carrier = record { passed = []; answered = replicate n 0; items = 0; carrier = carrier }

-- behind one event more, and behind all of these
abbrev pub walked_by : Walked → ModemEvent → Walked
walked_by w (pin_set pin up) =
    record { passed = w.passed; answered = w.answered; items = w.items + 1; carrier = w.carrier }
walked_by w (own c step answer) =
    record { passed = w.passed; answered = one_more w.answered c; items = w.items; carrier = w.carrier }
walked_by w (passed c step answer) = record {
  passed = w.passed ++ record { caller = c; step = step; down = down.Call } ∷ [];
  answered = one_more w.answered c;
  items = w.items;
  carrier = w.carrier;
}
walked_by w (carrier_lost h) = record {
  passed = w.passed ++ record { caller = w.carrier; step = w.items - 1; down = down.Hangup h } ∷ [];
  answered = w.answered;
  items = w.items;
  carrier = w.carrier;
}

abbrev pub walked_over : Walked → List ModemEvent → Walked
walked_over w es = after_all walked_by w es

-- what a port of these callers was passed: what was logged of it, and the calls that it has begun
abbrev pub all_down : (names : List (List ℕ)) → List ModemEvent → List PlainEntry → List PassedDown
all_down names events journal =
    let carrier = unwrap_or (number_in names carrier_name) (length names) in
    (walked_over (first_walk (length names) carrier) events).passed
    ++ begun_down journal (walked_over (first_walk (length names) carrier) events).answered

abbrev pub down_on : PlainSession → ModemLog → List PortRun → (p : ℕ) → List PassedDown
down_on session log runs p = all_down (names_of (scripts_over p session.phases)) (events_on p log) (journal_on runs p)
