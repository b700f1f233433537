-- What a session of ports with modem lines asks of them.
use Rattle.std.specs.Prelude.{ℕ, List, ◌++◌, length, map, replicate}
use Rattle.std.specs.List.{range_with_len}
use Rattle.passed_calls.specs.Scripts.{CallerScript}
use Rattle.modem_text.specs.Sessions.{ModemPhase, ModemSession, carrier_name, pins_on}
use Rattle.further_asked.specs.Asked.{AskedPhase, asks_of}

-- `carrier` hangs the port up, at most once for each item of its modem block
abbrev pub carrier_asks : ModemPhase → ℕ → CallerScript ℕ
carrier_asks phase p = record { port = p; name = carrier_name; calls = replicate (length (pins_on p phase)) 3 }

abbrev pub asked_phase_of : (ports : ℕ) → ModemPhase → AskedPhase
asked_phase_of ports phase = record {
  lines = phase.lines;
  ticks = phase.ticks;
  callers = map asks_of phase.callers ++ map (carrier_asks phase) (range_with_len 0 ports);
}

abbrev pub asked_phases : ModemSession → List AskedPhase
asked_phases session = map (asked_phase_of session.ports) session.phases
