-- How the printer goes on: for private functions alone.
use Rattle.std.specs.Prelude.{◌≡◌, ℕ, List, [], ◌∷◌, ◌++◌, ◌+◌, ◌-◌, ◌/◌, ◌%◌, nat_lt, Option, None, Some}
use Rattle.std.specs.Prelude.{Bool, ◌&&◌, ◌==◌, if◌then◌else◌, codes, decimal, filter, flat_map, length}
use Rattle.std.specs.Prelude.{map, slice_get, slice_index, slice_index_or, slice_set, string_bytes}
use Rattle.std.specs.Borrow.{Bor}
use Rattle.std.specs.List.{range_with_len}
use Rattle.std.specs.Option.{option_and_then}
use Rattle.tty_modes.specs.Names.{flag_names}
use Rattle.tty_modes.specs.Settings.{Settings, has_flag, character}
use Rattle.tty_modes.specs.Word.{word_text}
use Rattle.tty_modes.specs.declared.words.Word.TheVariants.{Cc}
use Rattle.tty_calls.specs.declared.journals.PortRun.{PortRun}
use Rattle.tty_calls.specs.declared.journals.Who.{Who}
use Rattle.tty_calls.specs.declared.sessions.Script.{Script}
use Rattle.tty_calls.specs.Plain.{PlainCall, PlainAnswer, PlainEntry}
use Rattle.tty_calls.specs.Sessions.{PlainScript, script_of, number_in}
use Rattle.session_print.specs.Words.{verb_of, answer_text}
use Rattle.session_print.specs.Journals.{event_text, who_text}
use Rattle.session_print.specs.Lines.{newline, flushed_count, dropped_count}
use Rattle.session_print.specs.Sizes.{STEPS}
use Rattle.session_print.specs.Report.{ToldCall, told_from, answer_of_event}
use Rattle.session_print.specs.declared.answers.Answers.{Answers}
use Rattle.session_print.specs.declared.fronts.Front.{Front}
use Rattle.session_print.specs.declared.places.Places.{Places}
use Rattle.session_print.specs.declared.places.Stretch.{Stretch}
use Rattle.session_print.specs.declared.places.Turn.{Turn}
use Rattle.session_print.specs.declared.sums.Sums.{Sums}

-- words, each with the number that follows it, and what stands at their end
abbrev pub fields_text : List (Bor (List ℕ) × ℕ) → List ℕ → List ℕ
fields_text [] end = end
fields_text (field ∷ fields) end = field.0.now ++ (decimal field.1 ++ fields_text fields end)

abbrev pub same_turn : Turn → Turn → Bool
same_turn a b = (a.caller == b.caller) && (a.step == b.step)

-- steps of a caller: the places of the first `count` stand one behind the other, from `first` on, and a place in
-- the list stands over these
pub record PlainStretch : Type 0 where
  pub first : ℕ
  pub count : ℕ
  pub list : List ℕ

abbrev pub stretch_of : Stretch → PlainStretch
stretch_of s = record { first = s.first; count = s.count; list = s.list.items }

abbrev pub stretches_of : List Stretch → List PlainStretch
stretches_of row = map stretch_of row

abbrev pub no_stretch : PlainStretch
no_stretch = record { first = 0; count = 0; list = [] }

-- the place of a step: of a stretch, of a caller's row, and of a caller
abbrev pub place_at : PlainStretch → ℕ → ℕ
place_at s step =
    if slice_index s.list step == 0
    then (if nat_lt step s.count then s.first + step else 0)
    else slice_index s.list step

abbrev pub place_on : List PlainStretch → ℕ → ℕ
place_on row step = place_at (slice_index_or row (step / STEPS) no_stretch) (step % STEPS)

abbrev pub place_in : Places → ℕ → ℕ → ℕ
place_in places c step = place_on (slice_index_or (map (λ row. stretches_of row.items) places.rows.items) c []) step

-- the entry at a place of a journal, and what it answers
abbrev pub entry_at : List PlainEntry → ℕ → Option PlainEntry
entry_at es place = if place == 0 then None else slice_get es (place - 1)

abbrev pub answer_at : List PlainEntry → ℕ → Option PlainAnswer
answer_at es place = option_and_then (λ e. answer_of_event e.event) (entry_at es place)

-- the answer to a caller's step
abbrev pub noted_answer : Answers → ℕ → ℕ → Option PlainAnswer
noted_answer answers c step = answer_at answers.journal.now.items (place_in answers.places.now c step)

-- what an entry answers to a caller's step, where it answers this turn
abbrev pub entry_answer : Option Turn → PlainEntry → ℕ → ℕ → Option PlainAnswer
entry_answer None e c step = None
entry_answer (Some turn) e c step =
    if same_turn turn (record { caller = c; step = step }) then answer_of_event e.event else None

-- what a journal flushes, and what is dropped with its entries; and the line that tells both
abbrev pub sums_of : List PlainEntry → Sums
sums_of es = record { flushed = flushed_count es; dropped = dropped_count es }

abbrev pub sums_on : PortRun → Sums
sums_on run = sums_of run.journal.items

abbrev pub sums_line : ℕ → Sums → List ℕ
sums_line p sums =
    codes "port "
    ++ (decimal p
    ++ (codes " input taken=" ++ (decimal sums.flushed ++ (codes " dropped=" ++ (decimal sums.dropped ++ newline)))))

-- what the line of a call begins with, and how it goes on
abbrev pub call_head : ℕ → List ℕ → List ℕ
call_head p name = decimal p ++ (codes "." ++ (name ++ codes "."))

abbrev pub call_rest : ℕ → PlainCall → PlainAnswer → List ℕ
call_rest step call answer =
    decimal step ++ (codes " " ++ (verb_of call ++ (codes " " ++ (answer_text answer ++ newline))))

-- the digits of a step before the last, as the text of a number begins with them
abbrev pub tens : ℕ → List ℕ
tens step = if nat_lt step 10 then [] else decimal (step / 10)

-- what the line of an entry begins with, but for the last digit of its step, and how it goes on
abbrev pub entry_front : List (List ℕ) → Who → ℕ → List ℕ
entry_front names who step = who_text names who ++ (codes " " ++ tens step)

-- a part and a generation, between blanks
abbrev pub places_text : ℕ → ℕ → List ℕ
places_text part generation = codes " " ++ (decimal part ++ (codes " " ++ (decimal generation ++ codes " ")))

abbrev pub entry_rest : PlainEntry → List ℕ
entry_rest e = decimal (e.step % 10) ++ (places_text e.part e.generation ++ (event_text e.event ++ newline))

-- that a front is that of its own entry
abbrev pub Fronts : List (List ℕ) → Front → Type 0
Fronts names front = string_bytes front.text ≡ entry_front names front.who front.step

-- the scripts of a port's callers
abbrev pub scripts_for : ℕ → List Script → List PlainScript
scripts_for p scripts = filter (λ s. s.port == p) (map script_of scripts)

-- a script's calls, by each caller's next step; and the next steps after it
abbrev pub told_script : List ℕ → PlainScript → Option ℕ → List ToldCall
told_script steps s None = []
told_script steps s (Some c) = told_from s.name (Some c) (slice_index steps c) s.calls

abbrev pub steps_then : List ℕ → PlainScript → Option ℕ → List ℕ
steps_then steps s None = steps
steps_then steps s (Some c) = slice_set steps c (slice_index steps c + length s.calls)

-- the calls of scripts one after the other, by each caller's next step; and the next steps after them
abbrev pub told_scripts : List (List ℕ) → List ℕ → List PlainScript → List ToldCall
told_scripts names steps [] = []
told_scripts names steps (s ∷ ss) =
    told_script steps s (number_in names s.name) ++ told_scripts names (steps_then steps s (number_in names s.name)) ss

abbrev pub steps_after : List (List ℕ) → List ℕ → List PlainScript → List ℕ
steps_after names steps [] = steps
steps_after names steps (s ∷ ss) = steps_after names (steps_then steps s (number_in names s.name)) ss

-- so many flags from a place on: the name of each that is set, and a blank
abbrev pub flags_text : Settings → ℕ → ℕ → List ℕ
flags_text modes place count = flat_map (λ flag. slice_index_or flag_names flag [] ++ codes " ")
    (filter (has_flag modes) (range_with_len place count))

-- so many control characters from a place on: for each a blank, and its word
abbrev pub characters_text : Settings → ℕ → ℕ → List ℕ
characters_text modes place count =
    flat_map (λ at. codes " " ++ word_text (Cc at (character modes at))) (range_with_len place count)
