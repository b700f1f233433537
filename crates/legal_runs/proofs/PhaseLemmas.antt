-- What an entry leaves of the number of the phase.
use Rattle.std.proofs.Common.{◌≡◌, ℕ, Option, List, refl, ap, ◌∙◌}
use Rattle.tty_calls.specs.Plain.{PlainCall, PlainEvent, answered, parted, waited, flushed, ticked}
use Rattle.tty_calls.specs.Plain.{line_ended, clock_ended, caller_ended, phase_ended, hung_up, PlainEntry}
use Rattle.tty_terminal.specs.Terminals.{Terminal}
use Rattle.tty_terminal.specs.Steps.{Allowed, after}
use Rattle.tty_terminal.specs.Marks.{Marks, marks_of, marks_after}
use Rattle.tty_terminal.specs.Runs.{phase_after}
use Rattle.tty_terminal.proofs.MarkLaws.{step_marks}

phase-marks_after : (event : PlainEvent) (step part : ℕ) (m : Marks)
    → (marks_after event step part m).phase ≡ phase_after event m.phase
phase-marks_after (answered a dropped) step part m = refl
phase-marks_after (parted taken) step part m = refl
phase-marks_after waited step part m = refl
phase-marks_after (flushed chars) step part m = refl
phase-marks_after ticked step part m = refl
phase-marks_after (line_ended n) step part m = refl
phase-marks_after clock_ended step part m = refl
phase-marks_after caller_ended step part m = refl
phase-marks_after phase_ended step part m = refl
phase-marks_after (hung_up dropped) step part m = refl

-- an entry leaves the phase as the walk over a journal counts it
pub phase-after : (calls : ℕ → ℕ → Option PlainCall) (counts : List ℕ) (t : Terminal) (e : PlainEntry)
    → Allowed calls counts t e
    → (after calls t e).phase ≡ phase_after e.event t.phase
phase-after calls counts t e allowed =
    ap (λ (m : Marks). m.phase) (step_marks calls counts t e allowed)
    ∙ phase-marks_after e.event e.step e.part (marks_of t)
