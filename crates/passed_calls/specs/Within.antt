-- What a session asks at most whose calls are not all for the port: its blocks keep the limits that every session
-- keeps, where all calls count.
use Rattle.std.specs.Prelude.{◌≡◌, ℕ, ◌<◌, ◌≤◌, IsTrue, List, [], All, length, map, sum_by, slice_index_or}
use Rattle.tty_base.specs.Sizes.{LEAST_FLIP, MOST_ARRIVALS, MOST_CALLERS, MOST_FLIP, MOST_PHASES, MOST_PORTS}
use Rattle.tty_base.specs.Sizes.{MOST_STEPS, MOST_TICKS}
use Rattle.tty_base.specs.Lines.{arrival_count, is_step}
use Rattle.tty_calls.specs.Limits.{IsCallWithin}
use Rattle.passed_calls.specs.Blocks.{blocks_on, names_on}
use Rattle.passed_calls.specs.Derived.{Passed, BlockPhase, by_caller, calls_at}
use Rattle.passed_calls.specs.Scripts.{AnyCall, CallerScript, plain, further}

-- each port has a line and a clock, and a limited number of callers, whose names differ
pub record IsBlockPhaseWithin (ports : ℕ) (phase : BlockPhase) : Type 0 where
  pub lines : length phase.lines ≡ ports
  pub ticks : length phase.ticks ≡ ports
  pub steps : All (λ line. All (λ step. IsTrue (is_step step)) line) phase.lines
  pub blocks : All (λ b. b.port < ports) phase.blocks
  pub few_callers : (p : ℕ) → length (blocks_on p phase.blocks) ≤ MOST_CALLERS
  pub own_names : (p : ℕ) → names_on p phase.blocks ≡ map (λ b. b.name) (blocks_on p phase.blocks)

-- how many calls there are, and how many characters arrive and how many ticks there are on a port
abbrev pub call_count : List BlockPhase → ℕ
call_count phases = sum_by (λ phase. sum_by (λ b. b.steps) phase.blocks) phases

abbrev pub character_count : ℕ → List BlockPhase → ℕ
character_count p phases = sum_by (λ phase. arrival_count (slice_index_or phase.lines p [])) phases

abbrev pub tick_count : ℕ → List BlockPhase → ℕ
tick_count p phases = sum_by (λ phase. slice_index_or phase.ticks p 0) phases

pub record AreBlocksWithin (ports : ℕ) (flips : List ℕ) (phases : List BlockPhase) : Type 0 where
  pub some_ports : 0 < ports
  pub few_ports : ports ≤ MOST_PORTS
  pub flips_of_all : length flips ≡ ports
  pub some_flip : All (λ n. LEAST_FLIP ≤ n) flips
  pub few_flip : All (λ n. n ≤ MOST_FLIP) flips
  pub few_phases : length phases ≤ MOST_PHASES
  pub each : All (IsBlockPhaseWithin ports) phases
  pub few_calls : call_count phases ≤ MOST_STEPS
  pub few_characters : (p : ℕ) → character_count p phases ≤ MOST_ARRIVALS
  pub few_ticks : (p : ℕ) → tick_count p phases ≤ MOST_TICKS

-- a call that is for the port keeps the limits of calls
abbrev pub IsAnyCallWithin : {C : Type 0} → AnyCall C → Type 0
IsAnyCallWithin (plain call) = IsCallWithin call
IsAnyCallWithin (further call) = Unit {0}

-- each call of scripts does
abbrev pub AreCallsWithin : {C : Type 0} → List (CallerScript (AnyCall C)) → Type 0
AreCallsWithin scripts = All (λ script. All IsAnyCallWithin script.calls) scripts

-- what was passed keeps the limits of calls, one for each call of a caller at most
pub record ArePassedWithin (passed : Passed) : Type 0 where
  pub calls : (q : ℕ) → All (λ m. All IsCallWithin m.calls) (passed q)
  pub single : (q c step : ℕ) → length (calls_at (by_caller c (passed q)) step) ≤ 1
