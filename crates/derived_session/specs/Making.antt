-- How the scripts of a derived session are made: for private functions alone.
use Rattle.std.specs.Prelude.{◌≡◌, ◌<◌, ℕ, ◌+◌, List, [], ◌∷◌, ◌++◌, if◌then◌else◌, length, nat_lt}
use Rattle.std.specs.Prelude.{slice_index_or, slice_set, unwrap_or}
use Rattle.tty_calls.specs.Sessions.{PlainScript, PlainPhase, number_in, with_name}
use Rattle.passed_calls.specs.Scripts.{CallerScript}
use Rattle.derived_session.specs.declared.slots.StepSlot.{StepSlot}
use Rattle.derived_session.specs.declared.passed.PassedDown.{PassedDown}
use Rattle.derived_session.specs.Slots.{calls_from, no_slot, slot_after, slot_at}
use Rattle.derived_session.specs.Steps.{CallerStep, StepsPhase}

-- a port: the names of its callers so far, what each passed down, and the next step of each
pub record PortState : Type 0 where
  pub names : List (List ℕ)
  pub slots : List (List StepSlot)
  pub next : List ℕ

-- the next steps, with one for a caller whose name is new
abbrev pub reached : (names : List (List ℕ)) → (next : List ℕ) → List ℕ
reached names next = if nat_lt (length next) (length names) then next ++ 0 ∷ [] else next

-- the number of a name that is learned
abbrev pub caller_of : PortState → List ℕ → ℕ
caller_of port name = unwrap_or (number_in (with_name port.names name) name) 0

abbrev pub next_of : PortState → List ℕ → List ℕ
next_of port name = reached (with_name port.names name) port.next

-- a script is made, and the port behind it
abbrev pub script_made : PortState → CallerScript CallerStep → PlainScript
script_made port s = record {
  port = s.port;
  name = s.name;
  calls = calls_from (slice_index_or port.slots (caller_of port s.name) [])
      (slice_index_or (next_of port s.name) (caller_of port s.name) 0) s.calls;
}

abbrev pub script_after : PortState → CallerScript CallerStep → PortState
script_after port s = record {
  names = with_name port.names s.name;
  slots = port.slots;
  next = slice_set (next_of port s.name) (caller_of port s.name)
      (slice_index_or (next_of port s.name) (caller_of port s.name) 0 + length s.calls);
}

-- ---- several scripts, each of its port

abbrev pub no_port : PortState
no_port = record { names = []; slots = []; next = [] }

abbrev pub port_at : List PortState → (p : ℕ) → PortState
port_at ports p = slice_index_or ports p no_port

abbrev pub ports_then : List PortState → CallerScript CallerStep → List PortState
ports_then ports s = slice_set ports s.port (script_after (port_at ports s.port) s)

abbrev pub ports_after : List PortState → List (CallerScript CallerStep) → List PortState
ports_after ports [] = ports
ports_after ports (s ∷ ss) = ports_after (ports_then ports s) ss

abbrev pub scripts_made : List PortState → List (CallerScript CallerStep) → List PlainScript
scripts_made ports [] = []
scripts_made ports (s ∷ ss) = script_made (port_at ports s.port) s ∷ scripts_made (ports_then ports s) ss

-- ---- phases

abbrev pub phase_made : List PortState → StepsPhase → PlainPhase
phase_made ports phase =
    record { lines = phase.lines; ticks = phase.ticks; callers = scripts_made ports phase.callers }

abbrev pub phases_made : List PortState → List StepsPhase → List PlainPhase
phases_made ports [] = []
phases_made ports (phase ∷ phases) = phase_made ports phase ∷ phases_made (ports_after ports phase.callers) phases

-- ---- at the beginning

pub record IsFirstPort (passed : List PassedDown) (port : PortState) : Type 0 where
  pub names : port.names ≡ []
  pub next : port.next ≡ []
  pub slots : (c step : ℕ) → slot_at port.slots c step ≡ slot_after no_slot passed c step

pub record AreFirstPorts (count : ℕ) (passed : List (List PassedDown)) (ports : List PortState) : Type 0 where
  pub many : length ports ≡ count
  pub each : (p : ℕ) → p < count → IsFirstPort (slice_index_or passed p []) (port_at ports p)
