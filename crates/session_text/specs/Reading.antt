-- Reading a text, line by line: the session that is built, or the first wrong line.
use Rattle.std.specs.Prelude.{◌≡◌, ℕ, List, [], ◌∷◌, Result, Ok, Err, if◌then◌else◌}
use Rattle.tty_calls.specs.Sessions.{PlainSession}
use Rattle.text_lines.specs.Lines.{first_is}
use Rattle.session_text.specs.declared.faults.Reason.{Reason}
use Rattle.session_text.specs.declared.faults.Reason.TheVariants.{Order}
use Rattle.session_text.specs.declared.faults.BadLine.{BadLine}
use Rattle.session_text.specs.declared.faults.TextFault.{TextFault}
use Rattle.session_text.specs.declared.faults.TextFault.TheVariants.{Bad, NoMemory}
use Rattle.session_text.specs.declared.verbs.Verb.{Verb}
use Rattle.session_text.specs.Stands.{PlainStand, first_stand, is_ended, verdict_on, stand_after}
use Rattle.session_text.specs.Drafts.{PlainDraft, first_draft, session_with, draft_after}
use Rattle.session_text.specs.Refusals.{next_line, lines_in}

-- where the reader stands, and what it has read
pub record PlainReading : Type 0 where
  pub stand : PlainStand
  pub draft : PlainDraft

abbrev pub first_reading : PlainReading
first_reading = record { stand = first_stand; draft = first_draft }

-- what the reader is after an item that is not wrong
abbrev pub reading_with : PlainReading → Verb → List (List ℕ) → PlainReading
reading_with r verb arguments =
    record { stand = stand_after r.stand verb arguments; draft = draft_after r.stand r.draft verb arguments }

abbrev pub reading_after_item : PlainReading → ℕ → List (List ℕ) → Result Verb Reason → Result PlainReading BadLine
reading_after_item r n arguments (Ok verb) = Ok (reading_with r verb arguments)
reading_after_item r n arguments (Err reason) = Err (record { line = n; reason = reason })

-- what the reader is after the line with this number, of these words
abbrev pub reading_after_line : PlainReading → ℕ → List (List ℕ) → Result PlainReading BadLine
reading_after_line r n [] = Ok r
reading_after_line r n (word ∷ arguments) =
    if first_is 35 word then Ok r else reading_after_item r n arguments (verdict_on r.stand word arguments)

abbrev pub session_at_end : PlainReading → ℕ → Result PlainSession BadLine
session_at_end r n =
    if is_ended r.stand.place then Ok (session_with r.stand r.draft) else Err (record { line = n; reason = Order })

abbrev pub then_read : Result PlainReading BadLine → (PlainReading → Result PlainSession BadLine)
    → Result PlainSession BadLine
then_read (Ok r) later = later r
then_read (Err line) later = Err line

abbrev pub session_from : PlainReading → ℕ → List (List (List ℕ)) → Result PlainSession BadLine
session_from r n [] = session_at_end r n
session_from r n (words ∷ lines) =
    then_read (reading_after_line r n words) (λ next. session_from next (next_line n) lines)

abbrev pub session_in : List ℕ → Result PlainSession BadLine
session_in text = session_from first_reading 1 (lines_in text)

-- a result is what is read, seen by view; want of memory is free
abbrev pub Fails : {Y : Type 0} → TextFault → Result Y BadLine → Type 0
Fails (Bad line) read = read ≡ Err line
Fails NoMemory read = Unit {0}

abbrev pub GivesRead : {X Y : Type 0} → (X → Y) → Result X TextFault → Result Y BadLine → Type 0
GivesRead view (Ok x) read = read ≡ Ok (view x)
GivesRead view (Err fault) read = Fails fault read
