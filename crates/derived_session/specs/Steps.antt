-- A session by the steps of its callers, and the session that is derived from what was passed down at them.
use Rattle.std.specs.Prelude.{ℕ, ◌+◌, ◌==◌, Option, None, Some, List, [], ◌∷◌, ◌++◌, map, filter, flat_map}
use Rattle.std.specs.Prelude.{replicate, slice_index_or}
use Rattle.tty_base.specs.declared.lines.LineStep.{LineStep}
use Rattle.tty_calls.specs.Plain.{PlainCall, hangs_up}
use Rattle.tty_calls.specs.Sessions.{PlainPhase, PlainScript, PlainSession}
use Rattle.passed_calls.specs.declared.placed.PlacedCall.{PlacedCall}
use Rattle.passed_calls.specs.Blocks.{names_on}
use Rattle.passed_calls.specs.Scripts.{AnyCall, CallerScript, plain, further, block_of, mixed, mixed_scripts}
use Rattle.passed_calls.specs.Scripts.{numbered_call}
use Rattle.passed_calls.specs.Derived.{Passing, Passed, BlockPhase, passed_phases}
use Rattle.derived_session.specs.declared.passed.Down.{Down}
use Rattle.derived_session.specs.declared.passed.Down.TheVariants as down
use Rattle.derived_session.specs.declared.passed.PassedDown.{PassedDown}
use Rattle.derived_session.specs.declared.passed.FurtherBlock.{FurtherBlock}

-- ---- steps

-- a step of a caller: the call that it makes there, where that is for the port
abbrev pub CallerStep : Type 0
CallerStep = Option PlainCall

abbrev pub step_of : {C : Type 0} → AnyCall C → CallerStep
step_of (plain call) = Some call
step_of (further call) = None

abbrev pub steps_in : {C : Type 0} → CallerScript (AnyCall C) → CallerScript CallerStep
steps_in script = record { port = script.port; name = script.name; calls = map step_of script.calls }

-- a script, with the calls that are placed in it
abbrev pub steps_with : {C : Type 0} → PlainScript → List (PlacedCall C) → CallerScript CallerStep
steps_with script placed =
    steps_in (record { port = script.port; name = script.name; calls = mixed 0 script.calls placed })

-- a block of which no call is for the port
abbrev pub further_steps : FurtherBlock → CallerScript CallerStep
further_steps b = record { port = b.port; name = b.name.bytes; calls = replicate b.steps None }

-- a phase; `lines` and `ticks` have one item for each port
pub record StepsPhase : Type 0 where
  pub lines : List (List LineStep)
  pub ticks : List ℕ
  pub callers : List (CallerScript CallerStep)

-- the scripts of a phase with the calls that are placed in them, and behind them blocks of others
abbrev pub phase_steps : {C : Type 0} → PlainPhase → List (PlacedCall C) → List FurtherBlock → StepsPhase
phase_steps phase placed others = record {
  lines = phase.lines;
  ticks = phase.ticks;
  callers = map steps_in (mixed_scripts 0 phase.callers placed) ++ map further_steps others;
}

-- the phases from this place on, each with what it has beside, which is nothing where no more is said
abbrev pub phases_steps : {C : Type 0} → List (List (PlacedCall C)) → List (List FurtherBlock) → (place : ℕ)
    → List PlainPhase → List StepsPhase
phases_steps placed others n [] = []
phases_steps placed others n (phase ∷ phases) =
    phase_steps phase (slice_index_or placed n []) (slice_index_or others n [])
    ∷ phases_steps placed others (n + 1) phases

abbrev pub block_phase_of : StepsPhase → BlockPhase
block_phase_of phase = record { lines = phase.lines; ticks = phase.ticks; blocks = map block_of phase.callers }

-- all scripts of all phases
abbrev pub scripts_in : List StepsPhase → List (CallerScript CallerStep)
scripts_in phases = flat_map (λ phase. phase.callers) phases

abbrev pub step_at : List (CallerScript CallerStep) → (p c step : ℕ) → Option CallerStep
step_at scripts p c step =
    numbered_call (names_on p (map block_of scripts)) (filter (λ s. s.port == p) scripts) c step

-- ---- what was passed down

abbrev pub own_call : Option CallerStep → List PlainCall
own_call (Some (Some call)) = call ∷ []
own_call other = []

-- at a step, where this is made
abbrev pub calls_down : Option CallerStep → Down → List PlainCall
calls_down made down.Call = own_call made
calls_down made (down.Hangup h) = hangs_up h ∷ []

abbrev pub passing_of : (made : (c step : ℕ) → Option CallerStep) → PassedDown → Passing
passing_of made d = record { caller = d.caller; step = d.step; calls = calls_down (made d.caller d.step) d.down }

-- of each port
abbrev pub passings_of : List (CallerScript CallerStep) → List (List PassedDown) → Passed
passings_of scripts passed p = map (passing_of (step_at scripts p)) (slice_index_or passed p [])

abbrev pub derived_of : PlainSession → List StepsPhase → List (List PassedDown) → PlainSession
derived_of session phases passed = record {
  version = session.version;
  ports = session.ports;
  flips = session.flips;
  phases = passed_phases (passings_of (scripts_in phases) passed) (map block_phase_of phases);
}
