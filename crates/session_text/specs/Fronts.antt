-- The front of a text: a session up to its `end`, and the lines that follow.
use Rattle.std.specs.Prelude.{ℕ, List, [], ◌∷◌, Result, Ok, Err, if◌then◌else◌}
use Rattle.tty_calls.specs.Sessions.{PlainSession}
use Rattle.session_text.specs.declared.faults.Reason.TheVariants.{Order}
use Rattle.session_text.specs.declared.faults.BadLine.{BadLine}
use Rattle.session_text.specs.Refusals.{next_line, lines_in}
use Rattle.session_text.specs.Stands.{is_ended}
use Rattle.session_text.specs.Drafts.{session_with}
use Rattle.session_text.specs.Reading.{PlainReading, first_reading, reading_after_line}

-- the session, the number of the line after its `end`, and the words of that line and those after it
pub record PlainFront : Type 0 where
  pub session : PlainSession
  pub line : ℕ
  pub rest : List (List (List ℕ))

abbrev pub front_at : PlainReading → ℕ → List (List (List ℕ)) → PlainFront
front_at r n lines = record { session = session_with r.stand r.draft; line = n; rest = lines }

abbrev pub then_front : Result PlainReading BadLine → (PlainReading → Result PlainFront BadLine)
    → Result PlainFront BadLine
then_front (Ok r) later = later r
then_front (Err line) later = Err line

abbrev pub front_from : PlainReading → ℕ → List (List (List ℕ)) → Result PlainFront BadLine
front_from r n [] = if is_ended r.stand.place then Ok (front_at r n []) else Err (record { line = n; reason = Order })
front_from r n (words ∷ lines) =
    if is_ended r.stand.place
    then Ok (front_at r n (words ∷ lines))
    else then_front (reading_after_line r n words) (λ next. front_from next (next_line n) lines)

abbrev pub front_in : List ℕ → Result PlainFront BadLine
front_in text = front_from first_reading 1 (lines_in text)
