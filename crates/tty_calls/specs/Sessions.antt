-- A session as plain data, and what it asks of each of its ports.
use Rattle.std.specs.Prelude.{ℕ, List, [], ◌∷◌, ◌++◌, ◌==◌, Option, None, Some, if◌then◌else◌, map}
use Rattle.std.specs.Prelude.{filter, fold, flat_map, length, position, slice_get, slice_index_or}
use Rattle.std.specs.Str.{bytes_eq}
use Rattle.std.specs.List.{list_any}
use Rattle.tty_base.specs.declared.lines.LineStep.{LineStep}
use Rattle.tty_calls.specs.declared.sessions.Script.{Script}
use Rattle.tty_calls.specs.declared.sessions.Phase.{Phase}
use Rattle.tty_calls.specs.declared.sessions.Session.{Session}
use Rattle.tty_calls.specs.Plain.{PlainCall}

-- one caller's calls in a phase
pub record PlainScript : Type 0 where
  pub port : ℕ
  pub name : List ℕ
  pub calls : List PlainCall

-- a phase; `lines` and `ticks` have one item for each port
pub record PlainPhase : Type 0 where
  pub lines : List (List LineStep)
  pub ticks : List ℕ
  pub callers : List PlainScript

pub record PlainSession : Type 0 where
  pub version : ℕ
  pub ports : ℕ
  pub flips : List ℕ
  pub phases : List PlainPhase

abbrev pub script_of : Script → PlainScript
script_of s = record { port = s.port; name = s.name.bytes; calls = s.calls.items }

abbrev pub phase_of : Phase → PlainPhase
phase_of p = record {
  lines = map (λ steps. steps.items) p.lines.items;
  ticks = p.ticks.items;
  callers = map script_of p.callers.items;
}

abbrev pub session_of : Session → PlainSession
session_of s =
    record { version = s.version; ports = s.ports; flips = s.flips.items; phases = map phase_of s.phases.items }

-- what a port's line and clock do in a phase
abbrev pub line_on : ℕ → PlainPhase → List LineStep
line_on p phase = slice_index_or phase.lines p []

abbrev pub ticks_on : ℕ → PlainPhase → ℕ
ticks_on p phase = slice_index_or phase.ticks p 0

-- the scripts of a port's callers in a phase, and in several
abbrev pub scripts_on : ℕ → PlainPhase → List PlainScript
scripts_on p phase = filter (λ s. s.port == p) phase.callers

abbrev pub scripts_over : ℕ → List PlainPhase → List PlainScript
scripts_over p phases = flat_map (scripts_on p) phases

-- the names of the callers, in the order in which they first occur
abbrev pub with_name : List (List ℕ) → List ℕ → List (List ℕ)
with_name names name = if list_any (bytes_eq name) names then names else names ++ name ∷ []

abbrev pub names_of : List PlainScript → List (List ℕ)
names_of scripts = fold (λ names s. with_name names s.name) [] scripts

-- a caller's number is the place of its name
abbrev pub number_in : List (List ℕ) → List ℕ → Option ℕ
number_in names name = position (bytes_eq name) names

-- the calls under a name: a caller's steps go on over the phases
abbrev pub calls_under : List ℕ → List PlainScript → List PlainCall
calls_under name scripts = flat_map (λ s. if bytes_eq s.name name then s.calls else []) scripts

abbrev pub calls_of : List PlainScript → Option (List ℕ) → List PlainCall
calls_of scripts None = []
calls_of scripts (Some name) = calls_under name scripts

-- the call of a caller and step on a port
abbrev pub call_at : ℕ → PlainSession → ℕ → ℕ → Option PlainCall
call_at p session c step =
    slice_get (calls_of (scripts_over p session.phases) (slice_get (names_of (scripts_over p session.phases)) c)) step

-- how many callers a port has in each phase
abbrev pub counts_on : ℕ → PlainSession → List ℕ
counts_on p session = map (λ phase. length (scripts_on p phase)) session.phases
