-- How the steps of a script are walked: for private functions alone.
use Rattle.std.specs.Prelude.{◌≡◌, ◌<◌, ◌+◌, ◌-◌, ◌&&◌, ℕ, List, ◌++◌, Option, None, Some}
use Rattle.std.specs.Prelude.{if◌then◌else◌, drop, length, map, nat_lt}
use Rattle.tty_calls.specs.Plain.{PlainCall}
use Rattle.passed_calls.specs.declared.placed.PlacedCall.{PlacedCall}
use Rattle.passed_calls.specs.Scripts.{mixed}
use Rattle.derived_session.specs.declared.calls.Cursor.{Cursor}
use Rattle.derived_session.specs.declared.slots.StepSlot.{StepSlot}
use Rattle.derived_session.specs.Steps.{CallerStep, step_of}
use Rattle.derived_session.specs.Slots.{calls_from}

-- the steps from here on
abbrev pub steps_left : {C : Type 0} → List PlainCall → List (PlacedCall C) → Cursor → List CallerStep
steps_left calls placed at = map step_of (mixed at.place (drop at.taken calls) (drop at.own placed))

-- the place of the next call, where it is not for the port: of a script that has so many for it
abbrev pub further_place : (count place : ℕ) → Cursor → Option ℕ
further_place count place at = if nat_lt at.taken count && nat_lt at.place place then None else Some place

abbrev pub next_further : {C : Type 0} → (count : ℕ) → Option (PlacedCall C) → Cursor → Option ℕ
next_further count None at = None
next_further count (Some call) at = further_place count call.place at

-- one step more, with these calls so far
pub record WalksOn {C : Type 0} (slots : List StepSlot) (calls : List PlainCall) (placed : List (PlacedCall C))
    (at : Cursor) (old : List PlainCall) (next : Cursor) (new : List PlainCall) : Type 0 where
  pub calls_are : new ++ calls_from slots next.step (steps_left calls placed next)
      ≡ old ++ calls_from slots at.step (steps_left calls placed at)
  pub step : next.step + length (steps_left calls placed next) ≡ at.step + length (steps_left calls placed at)
  pub less : (length calls - next.taken) + (length placed - next.own)
      < (length calls - at.taken) + (length placed - at.own)
