-- How a derived session is made: for private functions alone.
use Rattle.std.specs.Prelude.{ℕ, ◌+◌, ◌==◌, ◌&&◌, true, false, Option, None, Some, List, [], ◌∷◌, ◌++◌}
use Rattle.std.specs.Prelude.{if◌then◌else◌, slice_index_or}
use Rattle.tty_calls.specs.Plain.{PlainCall, hangs_up}
use Rattle.derived_session.specs.declared.passed.Down.{Down}
use Rattle.derived_session.specs.declared.passed.Down.TheVariants as down
use Rattle.derived_session.specs.declared.passed.PassedDown.{PassedDown}
use Rattle.derived_session.specs.declared.slots.StepSlot.{StepSlot}
use Rattle.derived_session.specs.Steps.{CallerStep}

-- ---- what was passed down at a step

abbrev pub no_slot : StepSlot
no_slot = record { own = false; hangup = None }

abbrev pub with_down : StepSlot → Down → StepSlot
with_down slot down.Call = record slot { own = true }
with_down slot (down.Hangup h) = record slot { hangup = Some h }

-- by a caller at a step, after these
abbrev pub slot_after : StepSlot → List PassedDown → (c step : ℕ) → StepSlot
slot_after slot [] c step = slot
slot_after slot (d ∷ ds) c step =
    slot_after (if d.caller == c && d.step == step then with_down slot d.down else slot) ds c step

abbrev pub slot_in : List StepSlot → (step : ℕ) → StepSlot
slot_in slots step = slice_index_or slots step no_slot

abbrev pub slot_at : List (List StepSlot) → (c step : ℕ) → StepSlot
slot_at slots c step = slot_in (slice_index_or slots c []) step

-- ---- calls

abbrev pub own_list : CallerStep → List PlainCall
own_list None = []
own_list (Some call) = call ∷ []

abbrev pub hangup_list : Option ℕ → List PlainCall
hangup_list None = []
hangup_list (Some h) = hangs_up h ∷ []

abbrev pub slot_calls : StepSlot → CallerStep → List PlainCall
slot_calls slot made = (if slot.own then own_list made else []) ++ hangup_list slot.hangup

-- at a caller's steps from one on
abbrev pub calls_from : List StepSlot → (step : ℕ) → List CallerStep → List PlainCall
calls_from slots n [] = []
calls_from slots n (made ∷ steps) = slot_calls (slot_in slots n) made ++ calls_from slots (n + 1) steps
