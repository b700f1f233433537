-- The refused text: its first wrong line, and why that line is wrong.
use Rattle.std.specs.Prelude.{ℕ, ◌+◌, min, List, [], ◌∷◌, map, Option, None, Some, Result, Ok, Err, if◌then◌else◌}
use Rattle.text_lines.specs.Lines.{lines_of, words_of, first_is}
use Rattle.session_text.specs.declared.faults.Reason.{Reason}
use Rattle.session_text.specs.declared.faults.Reason.TheVariants.{Order}
use Rattle.session_text.specs.declared.faults.BadLine.{BadLine}
use Rattle.session_text.specs.declared.verbs.Verb.{Verb}
use Rattle.session_text.specs.Stands.{PlainStand, first_stand, is_ended, verdict_on, stand_after}

-- the number of the line after this one, as far as 32 bits count
abbrev pub next_line : ℕ → ℕ
next_line n = min (n + 1) 4294967295

-- the stand after an item, if it is not wrong
abbrev pub stand_from : PlainStand → List (List ℕ) → Result Verb Reason → Result PlainStand Reason
stand_from s arguments (Ok verb) = Ok (stand_after s verb arguments)
stand_from s arguments (Err reason) = Err reason

-- the stand after a line of these words
abbrev pub stand_after_line : PlainStand → List (List ℕ) → Result PlainStand Reason
stand_after_line s [] = Ok s
stand_after_line s (word ∷ arguments) =
    if first_is 35 word then Ok s else stand_from s arguments (verdict_on s word arguments)

-- the line with this number, where it is wrong, or else what comes later
abbrev pub or_later : ℕ → Result PlainStand Reason → (PlainStand → Option BadLine) → Option BadLine
or_later n (Ok s) later = later s
or_later n (Err reason) later = Some (record { line = n; reason = reason })

-- the first wrong line of those from number n on; a text that ends too early is wrong at the line after its last
abbrev pub refusal_from : PlainStand → ℕ → List (List (List ℕ)) → Option BadLine
refusal_from s n [] = if is_ended s.place then None else Some (record { line = n; reason = Order })
refusal_from s n (words ∷ lines) = or_later n (stand_after_line s words) (λ next. refusal_from next (next_line n) lines)

-- the words of each line
abbrev pub lines_in : List ℕ → List (List (List ℕ))
lines_in text = map words_of (lines_of text)

abbrev pub refusal : List ℕ → Option BadLine
refusal text = refusal_from first_stand 1 (lines_in text)
