-- What the entries of a journal tell of tick, line, clock, phase and flush runs.
use Rattle.std.specs.Prelude.{ℕ, ◌+◌, List, [], ◌∷◌, Bool, true, false, Option, None, Some}
use Rattle.tty_calls.specs.Plain.{PlainEvent, answered, parted, waited, flushed, ticked, line_ended}
use Rattle.tty_calls.specs.Plain.{clock_ended, caller_ended, phase_ended, hung_up, PlainEntry}
use Rattle.tty_terminal.specs.declared.callers.Piece.{Piece}
use Rattle.tty_terminal.specs.Terminals.{Terminal}

pub record Marks : Type 0 where
  pub tick : ℕ
  pub sent : ℕ
  pub phase : ℕ
  pub line_over : Bool
  pub clock_over : Bool
  pub latest : Option Piece

abbrev pub marks_of : Terminal → Marks
marks_of t =
    record {
      tick = t.tick;
      sent = t.sent;
      phase = t.phase;
      line_over = t.line_over;
      clock_over = t.clock_over;
      latest = t.flushed;
    }

-- after an event of this step and part
abbrev pub marks_after : PlainEvent → (step part : ℕ) → Marks → Marks
marks_after (answered a dropped) step part m = m
marks_after (parted n) step part m = m
marks_after waited step part m = m
marks_after (flushed chars) step part m = record m { latest = Some (record { run = step; part = part }) }
marks_after ticked step part m = record m { tick = m.tick + 1 }
marks_after (line_ended n) step part m = record m { sent = n; line_over = true }
marks_after clock_ended step part m = record m { clock_over = true }
marks_after caller_ended step part m = m
marks_after phase_ended step part m = record m { phase = m.phase + 1; line_over = false; clock_over = false }
marks_after (hung_up dropped) step part m = m

-- after these entries
abbrev pub marks_in : List PlainEntry → Marks → Marks
marks_in [] m = m
marks_in (e ∷ es) m = marks_in es (marks_after e.event e.step e.part m)

-- at first
abbrev pub no_marks : Marks
no_marks = record { tick = 0; sent = 0; phase = 0; line_over = false; clock_over = false; latest = None }
