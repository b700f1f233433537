-- Worked sessions with modem lines: their logs and journals.
use Rattle.std.specs.Prelude.{ℕ, List, [], ◌∷◌, true, false, sum, take}
use Rattle.tty_base.specs.declared.counters.Errno.TheVariants.{EAGAIN, EBADF}
use Rattle.tty_calls.specs.declared.calls.Access.TheVariants.{Rw}
use Rattle.tty_calls.specs.declared.journals.Who.TheVariants.{Caller, Line, Clock, Session}
use Rattle.tty_calls.specs.Plain.{PlainCall, opens, reads, hangs_up, done, got, number_is, refused, idle, waited}
use Rattle.tty_calls.specs.Plain.{line_ended, clock_ended, caller_ended, phase_ended, hung_up, PlainEntry}
use Rattle.tty_calls.specs.Sessions.{PlainPhase, PlainSession, call_at, counts_on}
use Rattle.tty_terminal.specs.Terminals.{opening}
use Rattle.tty_terminal.specs.Rows.{whole, answers}
use Rattle.legal_runs.specs.Legal.{flip_on}
use Rattle.modem_lines.specs.declared.pins.Pin.{Pin}
use Rattle.modem_lines.specs.declared.pins.Pin.TheVariants.{Dcd}
use Rattle.passed_calls.specs.declared.logs.Logged.{Logged}
use Rattle.passed_calls.specs.Scripts.{plain, further}
use Rattle.modem_text.specs.declared.items.OwnCall.TheVariants as call
use Rattle.modem_text.specs.Events.{ModemEvent, pin_set, own, passed, carrier_lost, ModemLog}
use Rattle.modem_text.specs.Sessions.{ModemCall, PinStep, ModemPhase, ModemSession, carrier_name}
use Rattle.modem_steps.specs.Derived.{derived}
use Rattle.modem_steps.specs.Steps.{Port, ModemState, first_state, after_event}
use Rattle.legal_runs.specs.Rows.{played_with}

-- ---- sessions of one port, whose only caller is called a

abbrev pub pin_step : Pin → PinStep
pin_step pin = record { pin = pin; up = true }

abbrev pub fall : Pin → PinStep
fall pin = record { pin = pin; up = false }

abbrev pub phase_with : List PinStep → List ModemCall → ModemPhase
phase_with pins calls = record {
  lines = [] ∷ [];
  ticks = 0 ∷ [];
  pins = pins ∷ [];
  callers = record { port = 0; name = 97 ∷ []; calls = calls } ∷ [];
}

abbrev pub session_with : List ModemPhase → ModemSession
session_with phases = record { version = 1; ports = 1; flips = 4096 ∷ []; phases = phases }

abbrev pub plain_phase : List PlainCall → (hangups : List PlainCall) → PlainPhase
plain_phase calls hangups = record {
  lines = [] ∷ [];
  ticks = 0 ∷ [];
  callers =
      record { port = 0; name = 97 ∷ []; calls = calls } ∷ record { port = 0; name = carrier_name; calls = hangups }
      ∷ [];
}

abbrev pub logged : ℕ → ModemEvent → Logged ModemEvent
logged at event = record { port = 0; at = at; event = event }

-- port 0 of a session, by its log and its journal
abbrev pub port_of : ModemSession → ModemLog → List PlainEntry → Port
port_of session log journal = record {
  number = 0;
  session = session;
  journal = record {
    entries = journal;
    calls = call_at 0 (derived session log);
    opening = opening (sum (counts_on 0 (derived session log))) (flip_on 0 (derived session log));
  };
}

-- ---- a call comes in: the open waits for the carrier, and the reader is hung up where it is lost

abbrev pub dial_in : ModemSession
dial_in = session_with (
    phase_with (pin_step Dcd ∷ []) (plain (opens 0 Rw false) ∷ further (call.Mget 0) ∷ [])
    ∷ phase_with (fall Dcd ∷ []) (plain (reads 0 8) ∷ [])
    ∷ [])

abbrev pub dial_in_log : ModemLog
dial_in_log =
    logged 1 (pin_set Dcd true)
    ∷ logged 2 (passed 0 0 done)
    ∷ logged 2 (own 0 1 (number_is 70))
    ∷ logged 8 (pin_set Dcd false)
    ∷ logged 9 (carrier_lost 0)
    ∷ logged 10 (passed 0 2 (got []))
    ∷ []

abbrev pub dial_in_played : PlainSession
dial_in_played =
    played_with (plain_phase (opens 0 Rw false ∷ []) [] ∷ plain_phase (reads 0 8 ∷ []) (hangs_up 0 ∷ []) ∷ [])

abbrev pub dial_in_journal : List PlainEntry
dial_in_journal =
    whole Line 0 0 (line_ended 0)
    ∷ whole (Caller 0) 0 0 (answers done)
    ∷ whole (Caller 0) 1 0 caller_ended
    ∷ whole (Caller 1) 0 0 caller_ended
    ∷ whole Clock 0 0 clock_ended
    ∷ whole Session 0 0 phase_ended
    ∷ whole Line 1 0 (line_ended 0)
    ∷ whole (Caller 0) 1 0 waited
    ∷ whole (Caller 1) 0 0 (answers done)
    ∷ whole (Caller 0) 1 1 (answers (got []))
    ∷ whole (Caller 0) 2 1 caller_ended
    ∷ whole (Caller 1) 1 1 caller_ended
    ∷ whole Clock 1 1 clock_ended
    ∷ whole Session 1 1 phase_ended
    ∷ whole Session 2 1 (hung_up [])
    ∷ []

-- the open goes on before the carrier came
abbrev pub opened_early : ModemLog
opened_early = logged 2 (passed 0 0 done) ∷ logged 2 (own 0 1 (number_is 70)) ∷ []

-- the carrier is lost, and nobody hangs up
abbrev pub not_hung_up : ModemLog
not_hung_up =
    logged 1 (pin_set Dcd true)
    ∷ logged 2 (passed 0 0 done)
    ∷ logged 2 (own 0 1 (number_is 70))
    ∷ logged 8 (pin_set Dcd false)
    ∷ logged 10 (passed 0 2 (got []))
    ∷ []

-- DTR and RTS are up although nothing was opened
abbrev pub raised_early : ModemLog
raised_early = logged 1 (pin_set Dcd true) ∷ logged 2 (passed 0 0 done) ∷ logged 2 (own 0 1 (number_is 64)) ∷ []

-- ---- a carrier comes and goes where CLOCAL is set, and is told once

abbrev pub local_line : ModemSession
local_line = session_with (
    phase_with (pin_step Dcd ∷ fall Dcd ∷ [])
    (plain (opens 0 Rw true) ∷ further (call.Softcar 0 true) ∷ further (call.Getcar 0) ∷ further (call.Mget 0) ∷ [])
    ∷ phase_with [] (further (call.Msr 0) ∷ further (call.Msr 0) ∷ plain (reads 0 8) ∷ [])
    ∷ [])

abbrev pub local_line_log : ModemLog
local_line_log =
    logged 2 (passed 0 0 done)
    ∷ logged 2 (own 0 1 done)
    ∷ logged 2 (own 0 2 (number_is 1))
    ∷ logged 2 (own 0 3 (number_is 6))
    ∷ logged 3 (pin_set Dcd true)
    ∷ logged 3 (pin_set Dcd false)
    ∷ logged 7 (own 0 4 (number_is 8))
    ∷ logged 7 (own 0 5 (number_is 0))
    ∷ logged 8 (passed 0 6 (refused EAGAIN))
    ∷ []

abbrev pub local_line_played : PlainSession
local_line_played = played_with (plain_phase (opens 0 Rw true ∷ []) [] ∷ plain_phase (reads 0 8 ∷ []) [] ∷ [])

abbrev pub local_line_journal : List PlainEntry
local_line_journal =
    whole Line 0 0 (line_ended 0)
    ∷ whole (Caller 0) 0 0 (answers done)
    ∷ whole (Caller 0) 1 0 caller_ended
    ∷ whole (Caller 1) 0 0 caller_ended
    ∷ whole Clock 0 0 clock_ended
    ∷ whole Session 0 0 phase_ended
    ∷ whole Line 1 0 (line_ended 0)
    ∷ whole (Caller 0) 1 0 (answers (refused EAGAIN))
    ∷ whole (Caller 0) 2 0 caller_ended
    ∷ whole (Caller 1) 0 0 caller_ended
    ∷ whole Clock 1 0 clock_ended
    ∷ whole Session 1 0 phase_ended
    ∷ whole Session 2 0 (hung_up [])
    ∷ []

-- the register is asked before the line's end
abbrev pub asked_early : ModemLog
asked_early =
    logged 2 (passed 0 0 done)
    ∷ logged 2 (own 0 1 done)
    ∷ logged 2 (own 0 2 (number_is 1))
    ∷ logged 2 (own 0 3 (number_is 6))
    ∷ logged 3 (pin_set Dcd true)
    ∷ logged 3 (pin_set Dcd false)
    ∷ logged 6 (own 0 4 (number_is 8))
    ∷ []

-- the register is asked in the phase before that of the call
abbrev pub asked_in_other_phase : ModemLog
asked_in_other_phase =
    logged 2 (passed 0 0 done)
    ∷ logged 2 (own 0 1 done)
    ∷ logged 2 (own 0 2 (number_is 1))
    ∷ logged 2 (own 0 3 (number_is 6))
    ∷ logged 2 (own 0 4 (number_is 0))
    ∷ []

-- the port is hung up although CLOCAL is set
abbrev pub hung_up_under_clocal : ModemLog
hung_up_under_clocal =
    logged 2 (passed 0 0 done)
    ∷ logged 2 (own 0 1 done)
    ∷ logged 2 (own 0 2 (number_is 1))
    ∷ logged 2 (own 0 3 (number_is 6))
    ∷ logged 3 (pin_set Dcd true)
    ∷ logged 3 (pin_set Dcd false)
    ∷ logged 4 (carrier_lost 0)
    ∷ []

-- the register tells of a change twice
abbrev pub told_twice : ModemLog
told_twice =
    logged 2 (passed 0 0 done)
    ∷ logged 2 (own 0 1 done)
    ∷ logged 2 (own 0 2 (number_is 1))
    ∷ logged 2 (own 0 3 (number_is 6))
    ∷ logged 3 (pin_set Dcd true)
    ∷ logged 3 (pin_set Dcd false)
    ∷ logged 7 (own 0 4 (number_is 8))
    ∷ logged 7 (own 0 5 (number_is 8))
    ∷ []

-- ---- no carrier comes

abbrev pub no_carrier : ModemSession
no_carrier = session_with (phase_with [] (plain (opens 0 Rw false) ∷ further (call.Mget 0) ∷ []) ∷ [])

abbrev pub no_carrier_log : ModemLog
no_carrier_log = logged 3 (own 0 0 idle) ∷ logged 3 (own 0 1 (refused EBADF)) ∷ []

abbrev pub no_carrier_played : PlainSession
no_carrier_played = played_with (plain_phase [] [] ∷ [])

abbrev pub no_carrier_journal : List PlainEntry
no_carrier_journal =
    whole Line 0 0 (line_ended 0)
    ∷ whole (Caller 1) 0 0 caller_ended
    ∷ whole Clock 0 0 clock_ended
    ∷ whole (Caller 0) 0 0 caller_ended
    ∷ whole Session 0 0 phase_ended
    ∷ whole Session 1 0 (hung_up [])
    ∷ []

-- the open is told that no carrier comes while the clock still runs
abbrev pub given_up_early : ModemLog
given_up_early = logged 2 (own 0 0 idle) ∷ []

-- ---- an open waits for no carrier before its phase

abbrev pub later_open : ModemSession
later_open =
    session_with (phase_with [] (further (call.Mget 0) ∷ []) ∷ phase_with [] (plain (opens 0 Rw false) ∷ []) ∷ [])

abbrev pub later_open_log : ModemLog
later_open_log = logged 1 (own 0 0 (refused EBADF)) ∷ []

-- the state of a port after these events
abbrev pub state_after : Port → ModemState → ModemLog → ModemState
state_after port s [] = s
state_after port s (l ∷ log) = state_after port (after_event port s l.at l.event) log

abbrev pub dial_in_port : Port
dial_in_port = port_of dial_in dial_in_log dial_in_journal

abbrev pub dial_in_state : (events : ℕ) → ModemState
dial_in_state n = state_after dial_in_port (first_state 0 dial_in) (take n dial_in_log)

abbrev pub later_open_port : Port
later_open_port = port_of later_open later_open_log (whole Line 0 0 (line_ended 0) ∷ [])

abbrev pub later_open_state : ModemState
later_open_state = state_after later_open_port (first_state 0 later_open) later_open_log

abbrev pub no_carrier_port : Port
no_carrier_port = port_of no_carrier no_carrier_log no_carrier_journal

abbrev pub no_carrier_state : (events : ℕ) → ModemState
no_carrier_state n = state_after no_carrier_port (first_state 0 no_carrier) (take n no_carrier_log)
