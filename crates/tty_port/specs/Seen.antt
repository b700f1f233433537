-- What a history tells, as a seat has seen it.
use Rattle.std.specs.Prelude.{◌≡◌, ℕ, ◌+◌, List, [], ◌∷◌, false, Option, None, Some, map, sum}
use Rattle.tty_base.specs.declared.characters.Flagged.{Flagged}
use Rattle.tty_calls.specs.Plain.{PlainEntry}
use Rattle.tty_terminal.specs.declared.callers.Piece.{Piece}
use Rattle.tty_terminal.specs.Terminals.{Terminal, opening}
use Rattle.tty_terminal.specs.Steps.{after}
use Rattle.tty_terminal.specs.Runs.{chars_of}
use Rattle.tty_terminal.specs.Standing.{Standing, standing_in, at_first}
use Rattle.tty_terminal.specs.Marks.{Marks, marks_in, no_marks}
use Rattle.port_cell.specs.declared.kept.Stamped.{Stamped}
use Rattle.tty_port.specs.Inside.{Name, EntryWithCall}

abbrev pub entries_in : List (Stamped EntryWithCall) → List PlainEntry
entries_in xs = map (λ (x : Stamped EntryWithCall). x.what.entry) xs

-- where a caller stands
abbrev pub standing_at : ℕ → List (Stamped EntryWithCall) → Standing
standing_at c xs = standing_in c (entries_in xs) at_first

-- where tick, line, clock, phase and flush runs stand
abbrev pub marks_at : List (Stamped EntryWithCall) → Marks
marks_at xs = marks_in (entries_in xs) no_marks

-- the characters that were taken or dropped
abbrev pub chars_at : List (Stamped EntryWithCall) → List Flagged
chars_at xs = chars_of (entries_in xs)

-- the terminal to which the entries lead
abbrev pub led_to : Terminal → List (Stamped EntryWithCall) → Terminal
led_to t [] = t
led_to t (x ∷ xs) = led_to (after (λ (c step : ℕ). x.what.call) t x.what.entry) xs

abbrev pub terminal_at : Name → List (Stamped EntryWithCall) → Terminal
terminal_at name xs = led_to (opening (sum name.counts) name.capacity) xs

-- the caller is between two calls of a phase in which its calls are not over
pub record IsBetweenCalls (c step : ℕ) (xs : List (Stamped EntryWithCall)) : Type 0 where
  pub next : (standing_at c xs).next ≡ step
  pub not_over : (standing_at c xs).over ≡ false
  pub not_begun : (standing_at c xs).begun ≡ false

-- the number of the flush run after this piece
abbrev pub run_after : Option Piece → ℕ
run_after None = 0
run_after (Some p) = p.run + 1

-- the number of the next flush run
abbrev pub next_run : List (Stamped EntryWithCall) → ℕ
next_run xs = run_after (marks_at xs).latest
