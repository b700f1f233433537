-- The session that the ports were played: the calls that were passed down, and in each phase, last, the caller
-- `carrier`.
use Rattle.std.specs.Prelude.{ℕ, ◌+◌, ◌-◌, ◌==◌, nat_lt, Option, None, Some, List, [], ◌∷◌, map}
use Rattle.std.specs.Prelude.{filter, flat_map, length, take, slice_get, if◌then◌else◌}
use Rattle.tty_calls.specs.Plain.{PlainCall, hangs_up}
use Rattle.tty_calls.specs.Sessions.{PlainSession}
use Rattle.passed_calls.specs.Blocks.{names_on, number_on}
use Rattle.passed_calls.specs.Scripts.{CallerScript, plain, calls_named}
use Rattle.passed_calls.specs.Derived.{Passing, BlockPhase, passed_phases}
use Rattle.modem_text.specs.Events.{ModemEvent, pin_set, own, passed, carrier_lost, ModemLog, events_on}
use Rattle.modem_text.specs.Sessions.{ModemCall, ModemPhase, ModemSession, carrier_name, blocks_in}
use Rattle.modem_text.specs.Within.{block_phase_of}

abbrev pub block_phases : ModemSession → List BlockPhase
block_phases session = map (block_phase_of session.ports) session.phases

-- the number of `carrier` on a port
abbrev pub carrier_on : ℕ → ModemSession → ℕ
carrier_on p session = number_on p (blocks_in session) carrier_name

abbrev pub scripts_over : ℕ → List ModemPhase → List (CallerScript ModemCall)
scripts_over p phases = flat_map (λ phase. filter (λ s. s.port == p) phase.callers) phases

-- the calls of a caller of a port in some phases of its session
abbrev pub calls_over : ℕ → ModemSession → List ModemPhase → (caller : ℕ) → List ModemCall
calls_over p session phases c = calls_named (slice_get (names_on p (blocks_in session)) c) (scripts_over p phases)

abbrev pub modem_call_at : ℕ → ModemSession → (caller step : ℕ) → Option ModemCall
modem_call_at p session c step = slice_get (calls_over p session session.phases c) step

-- the call of a step, where that is one of phase k
abbrev pub call_in_phase : ℕ → ModemSession → (k : ℕ) → (caller step : ℕ) → Option ModemCall
call_in_phase p session k c step =
    if nat_lt step (length (calls_over p session (take k session.phases) c))
    then None
    else slice_get (calls_over p session (take (k + 1) session.phases) c) step

abbrev pub plain_call : Option ModemCall → List PlainCall
plain_call (Some (plain call)) = call ∷ []
plain_call other = []

-- What a port was passed: its callers' calls, and the hangups of `carrier`. The step of such a hangup is the number of
-- the item of the port's modem blocks by which the carrier was lost: the latest of so many.
abbrev pub passings_from : (calls : ℕ → ℕ → Option ModemCall) → (carrier items : ℕ) → List ModemEvent → List Passing
passings_from calls carrier items [] = []
passings_from calls carrier items (pin_set pin up ∷ es) = passings_from calls carrier (items + 1) es
passings_from calls carrier items (own c step answer ∷ es) = passings_from calls carrier items es
passings_from calls carrier items (passed c step answer ∷ es) =
    record { caller = c; step = step; calls = plain_call (calls c step) } ∷ passings_from calls carrier items es
passings_from calls carrier items (carrier_lost h ∷ es) =
    record { caller = carrier; step = items - 1; calls = hangs_up h ∷ [] } ∷ passings_from calls carrier items es

abbrev pub passings_on : ModemSession → ModemLog → ℕ → List Passing
passings_on session log p = passings_from (modem_call_at p session) (carrier_on p session) 0 (events_on p log)

abbrev pub derived : ModemSession → ModemLog → PlainSession
derived session log = record {
  version = session.version;
  ports = session.ports;
  flips = session.flips;
  phases = passed_phases (passings_on session log) (block_phases session);
}
