-- The session that a port was played: of each caller the calls that were passed down to the port.
use Rattle.std.specs.Prelude.{ℕ, ◌==◌, ◌≤◌, ◌<◌, List, [], ◌∷◌, ◌++◌, filter, flat_map, if◌then◌else◌}
use Rattle.std.specs.List.{range_with_len}
use Rattle.tty_base.specs.declared.lines.LineStep.{LineStep}
use Rattle.tty_calls.specs.Plain.{PlainCall}
use Rattle.tty_calls.specs.Sessions.{PlainScript, PlainPhase}
use Rattle.passed_calls.specs.Blocks.{Block, number_on, steps_before}

-- what a port was passed for one call of a caller: mostly that call or nothing
pub record Passing : Type 0 where
  pub caller : ℕ
  pub step : ℕ
  pub calls : List PlainCall

-- what was passed by a caller, and for one of its calls
abbrev pub by_caller : ℕ → List Passing → List Passing
by_caller c passings = filter (λ m. m.caller == c) passings

abbrev pub all_calls : List Passing → List PlainCall
all_calls passings = flat_map (λ m. m.calls) passings

abbrev pub calls_at : List Passing → (step : ℕ) → List PlainCall
calls_at passings step = flat_map (λ m. if m.step == step then m.calls else []) passings

-- and for so many of its calls, from this step on
abbrev pub calls_for : List Passing → (first count : ℕ) → List PlainCall
calls_for passings first count = flat_map (calls_at passings) (range_with_len first count)

-- what each port was passed, in order
abbrev pub Passed : Type 0
Passed = ℕ → List Passing

-- the script of a block that stands after others, in a session with all these blocks
abbrev pub passed_script : Passed → (all before : List Block) → Block → PlainScript
passed_script passed all before b = record {
  port = b.port;
  name = b.name;
  calls = calls_for (by_caller (number_on b.port all b.name) (passed b.port)) (steps_before before b) b.steps;
}

abbrev pub passed_scripts : Passed → (all before : List Block) → List Block → List PlainScript
passed_scripts passed all before [] = []
passed_scripts passed all before (b ∷ bs) =
    passed_script passed all before b ∷ passed_scripts passed all (before ++ b ∷ []) bs

-- a phase of a session: what its lines and clocks do, and the blocks of its callers
pub record BlockPhase : Type 0 where
  pub lines : List (List LineStep)
  pub ticks : List ℕ
  pub blocks : List Block

abbrev pub blocks_of : List BlockPhase → List Block
blocks_of phases = flat_map (λ phase. phase.blocks) phases

abbrev pub passed_phases_after : Passed → (all before : List Block) → List BlockPhase → List PlainPhase
passed_phases_after passed all before [] = []
passed_phases_after passed all before (phase ∷ phases) =
    record { lines = phase.lines; ticks = phase.ticks; callers = passed_scripts passed all before phase.blocks }
    ∷ passed_phases_after passed all (before ++ phase.blocks) phases

-- the phases of the session that was played
abbrev pub passed_phases : Passed → List BlockPhase → List PlainPhase
passed_phases passed phases = passed_phases_after passed (blocks_of phases) [] phases

-- a caller's passings stand in the order of its steps, from this one on and before that
abbrev pub AreInSteps : (from end : ℕ) → List Passing → Type 0
AreInSteps from end [] = Unit {0}
AreInSteps from end (m ∷ ms) = (from ≤ m.step) × (m.step < end) × AreInSteps m.step end ms
