-- Worked sessions with modem lines, and their reports.
use Rattle.std.specs.Prelude.{ℕ, true, false, List, [], ◌∷◌, ◌++◌, codes}
use Rattle.tty_base.specs.declared.counters.Errno.TheVariants.{EAGAIN, EBADF}
use Rattle.tty_calls.specs.declared.calls.Access.TheVariants.{Rw}
use Rattle.tty_calls.specs.Plain.{opens, reads, done, got, number_is, refused, idle}
use Rattle.modem_lines.specs.declared.pins.Pin.TheVariants.{Dcd}
use Rattle.passed_calls.specs.declared.logs.Logged.{Logged}
use Rattle.passed_calls.specs.Scripts.{plain, further}
use Rattle.modem_text.specs.declared.items.OwnCall.TheVariants as call
use Rattle.modem_text.specs.Sessions.{ModemCall, ModemPhase, ModemSession, PinStep}
use Rattle.modem_text.specs.Events.{ModemEvent, ModemLog, pin_set, own, passed, carrier_lost}
use Rattle.further_report.specs.Modem.{modem_report_text}
use Rattle.further_report.specs.Rows.{end_with, port_head, run_with}

abbrev pub phase_with : List PinStep → List ModemCall → ModemPhase
phase_with pins calls = record {
  lines = [] ∷ [];
  ticks = 0 ∷ [];
  pins = pins ∷ [];
  callers = record { port = 0; name = codes "a"; calls = calls } ∷ [];
}

abbrev pub session_with : List ModemPhase → ModemSession
session_with phases = record { version = 1; ports = 1; flips = 4096 ∷ []; phases = phases }

abbrev pub logged : ℕ → ModemEvent → Logged ModemEvent
logged at event = record { port = 0; at = at; event = event }

-- the report of a session on whose port no characters came, which has this generation at its end
abbrev pub report_of : ModemSession → ModemLog → (generation : ℕ) → List ℕ
report_of session log generation = modem_report_text session log (run_with 0 [] ∷ []) (end_with [] generation [] ∷ [])

abbrev pub port_lines : (generation : List ℕ) → List ℕ
port_lines generation =
    port_head (codes "0") ++ (codes "-\nport 0 generation " ++ (generation ++ codes "\nport 0 wire -\ndone\n"))

-- ---- the carrier is lost, and the reader finds the end

abbrev pub dial_in : ModemSession
dial_in = session_with (
    phase_with (record { pin = Dcd; up = true } ∷ []) (plain (opens 0 Rw false) ∷ further (call.Mget 0) ∷ [])
    ∷ phase_with (record { pin = Dcd; up = false } ∷ []) (plain (reads 0 8) ∷ [])
    ∷ [])

abbrev pub dial_in_log : ModemLog
dial_in_log =
    logged 1 (pin_set Dcd true)
    ∷ logged 2 (passed 0 0 done)
    ∷ logged 2 (own 0 1 (number_is 70))
    ∷ logged 8 (pin_set Dcd false)
    ∷ logged 9 (carrier_lost 0)
    ∷ logged 10 (passed 0 2 (got []))
    ∷ []

abbrev pub dial_in_report : List ℕ
dial_in_report = codes "0.a.0 open ok\n0.a.1 mget 70\n0.a.2 read 0\n" ++ port_lines (codes "2")

-- ---- the carrier comes and goes where CLOCAL is set

abbrev pub local_line : ModemSession
local_line = session_with (
    phase_with (record { pin = Dcd; up = true } ∷ record { pin = Dcd; up = false } ∷ [])
    (plain (opens 0 Rw true) ∷ further (call.Softcar 0 true) ∷ further (call.Getcar 0) ∷ further (call.Mget 0) ∷ [])
    ∷ phase_with [] (further (call.Msr 0) ∷ further (call.Msr 0) ∷ plain (reads 0 8) ∷ [])
    ∷ [])

abbrev pub local_line_log : ModemLog
local_line_log =
    logged 2 (passed 0 0 done)
    ∷ logged 2 (own 0 1 done)
    ∷ logged 2 (own 0 2 (number_is 1))
    ∷ logged 2 (own 0 3 (number_is 6))
    ∷ logged 3 (pin_set Dcd true)
    ∷ logged 3 (pin_set Dcd false)
    ∷ logged 7 (own 0 4 (number_is 8))
    ∷ logged 7 (own 0 5 (number_is 0))
    ∷ logged 8 (passed 0 6 (refused EAGAIN))
    ∷ []

abbrev pub local_line_report : List ℕ
local_line_report =
    codes "0.a.0 open ok\n0.a.1 softcar ok\n0.a.2 getcar 1\n0.a.3 mget 6\n0.a.4 msr 8\n0.a.5 msr 0\n0.a.6 read EAGAIN\n"
    ++ port_lines (codes "1")

-- ---- no carrier comes

abbrev pub no_carrier : ModemSession
no_carrier = session_with (phase_with [] (plain (opens 0 Rw false) ∷ further (call.Mget 0) ∷ []) ∷ [])

abbrev pub no_carrier_log : ModemLog
no_carrier_log = logged 3 (own 0 0 idle) ∷ logged 3 (own 0 1 (refused EBADF)) ∷ []

abbrev pub no_carrier_report : List ℕ
no_carrier_report = codes "0.a.0 open idle\n0.a.1 mget EBADF\n" ++ port_lines (codes "1")
