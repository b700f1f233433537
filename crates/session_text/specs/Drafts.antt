-- A session as far as it was read.
use Rattle.std.specs.Prelude.{ℕ, ◌∷◌, ◌++◌, List, [], replicate, slice_set}
use Rattle.std.specs.Prelude.{Option, None, Some, option_map, option_to_list}
use Rattle.tty_base.specs.Sizes.{DEFAULT_FLIP}
use Rattle.tty_calls.specs.Plain.{PlainCall}
use Rattle.tty_calls.specs.Sessions.{PlainScript, PlainPhase, PlainSession}
use Rattle.text_lines.specs.Values.{word_at, number_at}
use Rattle.session_text.specs.declared.verbs.Verb.{Verb}
use Rattle.session_text.specs.declared.verbs.Verb.TheVariants.{Session, Ports, Flip, Phase, Line}
use Rattle.session_text.specs.declared.verbs.Verb.TheVariants.{Clock, Caller, Tick, End, Step, Call}
use Rattle.session_text.specs.Meaning.{steps_in, call_in, empty_phase, with_steps, with_ticks, with_script}
use Rattle.session_text.specs.Stands.{PlainStand}

-- the flip buffers' capacities, the phases before the open one, and the open one
pub record PlainDraft : Type 0 where
  pub flips : List ℕ
  pub phases : List PlainPhase
  pub open_phase : Option PlainPhase

abbrev pub first_draft : PlainDraft
first_draft = record { flips = []; phases = []; open_phase = None }

abbrev pub all_phases : PlainDraft → List PlainPhase
all_phases d = d.phases ++ option_to_list d.open_phase

abbrev pub session_with : PlainStand → PlainDraft → PlainSession
session_with s d = record { version = s.version; ports = s.ports; flips = d.flips; phases = all_phases d }

-- a call more of the last caller
abbrev pub with_call : PlainCall → List PlainScript → List PlainScript
with_call call [] = []
with_call call (script ∷ []) = record script { calls = script.calls ++ call ∷ [] } ∷ []
with_call call (script ∷ other ∷ scripts) = script ∷ with_call call (other ∷ scripts)

abbrev pub with_open : PlainDraft → (PlainPhase → PlainPhase) → PlainDraft
with_open d change = record d { open_phase = option_map change d.open_phase }

-- the open phase after an item that was read at this stand
abbrev pub phase_after : PlainStand → Verb → List (List ℕ) → PlainPhase → PlainPhase
phase_after s Caller arguments phase =
    with_script (record { port = number_at arguments 1; name = word_at arguments 0; calls = [] }) phase
phase_after s Tick arguments phase = with_ticks s.port (number_at arguments 0) phase
phase_after s (Step verb) arguments phase = with_steps s.port (steps_in verb arguments) phase
phase_after s (Call verb) arguments phase = record phase { callers = with_call (call_in verb arguments) phase.callers }
phase_after s verb arguments phase = phase

-- the draft after an item that was read at this stand
abbrev pub draft_after : PlainStand → PlainDraft → Verb → List (List ℕ) → PlainDraft
draft_after s d Session arguments = d
draft_after s d Ports arguments = record d { flips = replicate (number_at arguments 0) DEFAULT_FLIP }
draft_after s d Flip arguments = record d { flips = slice_set d.flips (number_at arguments 0) (number_at arguments 1) }
draft_after s d Phase arguments = record d { phases = all_phases d; open_phase = Some (empty_phase s.ports) }
draft_after s d Line arguments = d
draft_after s d Clock arguments = d
draft_after s d Caller arguments = with_open d (phase_after s Caller arguments)
draft_after s d Tick arguments = with_open d (phase_after s Tick arguments)
draft_after s d End arguments = d
draft_after s d (Step verb) arguments = with_open d (phase_after s (Step verb) arguments)
draft_after s d (Call verb) arguments = with_open d (phase_after s (Call verb) arguments)
