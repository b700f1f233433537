-- What a session whose callers have calls beside those for their port asks of a port, by the letters that this takes at
-- least in its text.
use Rattle.std.specs.Prelude.{ℕ, ◌+◌, ◌*◌, ◌==◌, ◌≤◌, Option, None, Some, List, All, filter, flat_map, map, sum, sum_by}
use Rattle.tty_base.specs.declared.lines.LineStep.{LineStep}
use Rattle.tty_calls.specs.Plain.{PlainCall}
use Rattle.tty_calls.specs.Limits.{byte_count}
use Rattle.passed_calls.specs.Blocks.{names_on}
use Rattle.passed_calls.specs.Derived.{BlockPhase, Passing, blocks_of}
use Rattle.passed_calls.specs.Scripts.{AnyCall, CallerScript, plain, further, block_of, numbered_call}
use Rattle.passed_calls.specs.Within.{character_count}

-- two for each byte that a call hands over, and three for each call
abbrev pub call_asks : PlainCall → ℕ
call_asks call = 2 * byte_count call + 3

abbrev pub any_asks : {C : Type 0} → AnyCall C → ℕ
any_asks (plain call) = call_asks call
any_asks (further call) = 3

-- a caller's calls in a phase, by what each of them asks
abbrev pub asks_of : {C : Type 0} → CallerScript (AnyCall C) → CallerScript ℕ
asks_of s = record { port = s.port; name = s.name; calls = map any_asks s.calls }

-- a phase: what its lines and clocks do, and what the calls of its callers ask
pub record AskedPhase : Type 0 where
  pub lines : List (List LineStep)
  pub ticks : List ℕ
  pub callers : List (CallerScript ℕ)

abbrev pub block_phase_of : AskedPhase → BlockPhase
block_phase_of phase = record { lines = phase.lines; ticks = phase.ticks; blocks = map block_of phase.callers }

abbrev pub block_phases : List AskedPhase → List BlockPhase
block_phases phases = map block_phase_of phases

abbrev pub scripts_over : ℕ → List AskedPhase → List (CallerScript ℕ)
scripts_over p phases = flat_map (λ phase. filter (λ s. s.port == p) phase.callers) phases

-- what all calls on a port ask, and two for each character that arrives
abbrev pub asked_on : ℕ → List AskedPhase → ℕ
asked_on p phases = sum_by (λ s. sum s.calls) (scripts_over p phases) + 2 * character_count p (block_phases phases)

-- what the call of a caller's step asks
abbrev pub asked_at : ℕ → List AskedPhase → (caller step : ℕ) → Option ℕ
asked_at p phases c step = numbered_call (names_on p (blocks_of (block_phases phases))) (scripts_over p phases) c step

-- what a port was passed asks no more than the calls that it was passed for
abbrev pub AsksWithin : Option ℕ → PlainCall → Type 0
AsksWithin None call = Unit {0}
AsksWithin (Some n) call = call_asks call ≤ n

abbrev pub AskNoMore : ℕ → List AskedPhase → List Passing → Type 0
AskNoMore p phases passings = All (λ m. All (AsksWithin (asked_at p phases m.caller m.step)) m.calls) passings
