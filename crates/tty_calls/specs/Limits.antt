-- What a session asks at most: the limits that every session keeps that a text spells.
use Rattle.std.specs.Prelude.{◌≡◌, ℕ, ◌<◌, ◌≤◌, IsTrue, List, All, length, map, sum_by}
use Rattle.tty_base.specs.Sizes.{LEAST_FLIP, MOST_ARRIVALS, MOST_ASKED, MOST_CALLERS, MOST_FLIP, MOST_HANDLES}
use Rattle.tty_base.specs.Sizes.{MOST_PHASES, MOST_PORTS, MOST_STEPS, MOST_TICKS}
use Rattle.tty_base.specs.Lines.{arrival_count, is_step}
use Rattle.tty_calls.specs.Plain.{PlainCall, writes, sends_packet, handle_of}
use Rattle.tty_calls.specs.Sessions.{PlainScript, PlainPhase, PlainSession, line_on, ticks_on, scripts_on, names_of}

-- how many bytes a call hands over
abbrev pub byte_count : PlainCall → ℕ
byte_count (writes h bytes) = length bytes
byte_count (sends_packet h bytes) = length bytes
byte_count call = 0

pub record IsCallWithin (call : PlainCall) : Type 0 where
  pub handle : handle_of call < MOST_HANDLES
  pub bytes : byte_count call ≤ MOST_ASKED

pub record IsScriptWithin (ports : ℕ) (script : PlainScript) : Type 0 where
  pub port : script.port < ports
  pub calls : All IsCallWithin script.calls

-- each port has a line and a clock, and a limited number of callers, whose names differ
pub record IsPhaseWithin (ports : ℕ) (phase : PlainPhase) : Type 0 where
  pub lines : length phase.lines ≡ ports
  pub ticks : length phase.ticks ≡ ports
  pub steps : All (λ line. All (λ step. IsTrue (is_step step)) line) phase.lines
  pub scripts : All (IsScriptWithin ports) phase.callers
  pub few_callers : (p : ℕ) → length (scripts_on p phase) ≤ MOST_CALLERS
  pub own_names : (p : ℕ) → names_of (scripts_on p phase) ≡ map (λ script. script.name) (scripts_on p phase)

-- how many calls there are, and how many characters arrive and how many ticks there are on a port
abbrev pub call_count : List PlainPhase → ℕ
call_count phases = sum_by (λ phase. sum_by (λ script. length script.calls) phase.callers) phases

abbrev pub character_count : ℕ → List PlainPhase → ℕ
character_count p phases = sum_by (λ phase. arrival_count (line_on p phase)) phases

abbrev pub tick_count : ℕ → List PlainPhase → ℕ
tick_count p phases = sum_by (ticks_on p) phases

pub record IsWithinLimits (session : PlainSession) : Type 0 where
  pub some_ports : 0 < session.ports
  pub few_ports : session.ports ≤ MOST_PORTS
  pub flips : length session.flips ≡ session.ports
  pub some_flip : All (λ n. LEAST_FLIP ≤ n) session.flips
  pub few_flip : All (λ n. n ≤ MOST_FLIP) session.flips
  pub few_phases : length session.phases ≤ MOST_PHASES
  pub phases : All (IsPhaseWithin session.ports) session.phases
  pub few_calls : call_count session.phases ≤ MOST_STEPS
  pub few_characters : (p : ℕ) → character_count p session.phases ≤ MOST_ARRIVALS
  pub few_ticks : (p : ℕ) → tick_count p session.phases ≤ MOST_TICKS
