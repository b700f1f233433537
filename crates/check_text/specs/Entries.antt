-- The lines of a port's run: an entry, an overrun, and the lines that begin with a fixed word.
use Rattle.std.specs.Prelude.{ℕ, List, [], ◌∷◌, Option, option_map, Ok, Err, codes, if◌then◌else◌}
use Rattle.std.specs.Str.{bytes_eq}
use Rattle.std.specs.Option.{option_or}
use Rattle.tty_base.specs.declared.characters.Flagged.{Flagged}
use Rattle.tty_base.specs.declared.lines.Overrun.{Overrun}
use Rattle.tty_calls.specs.declared.journals.Who.{Who}
use Rattle.tty_calls.specs.declared.journals.Who.TheVariants.{Caller, Flusher, Line, Clock, Session}
use Rattle.tty_calls.specs.Plain.{PlainAnswer, PlainEvent, answered, parted, waited, flushed, ticked}
use Rattle.tty_calls.specs.Plain.{line_ended, clock_ended, caller_ended, phase_ended, hung_up, PlainEntry}
use Rattle.text_lines.specs.Values.{choice_of}
use Rattle.session_text.specs.declared.faults.Reason.TheVariants.{Word, Hex, Order}
use Rattle.session_print.specs.Journals.{who_text}
use Rattle.check_text.specs.declared.kinds.AnswerKind.{AnswerKind}
use Rattle.check_text.specs.declared.kinds.EventKind.{EventKind}
use Rattle.check_text.specs.declared.kinds.EventKind.TheVariants as event
use Rattle.check_text.specs.declared.entries.LineNumbers.{LineNumbers}
use Rattle.check_text.specs.Fields.{Read, Front, in_front, or_else, word_in}
use Rattle.check_text.specs.Fields.{number_in, port_in, after_first, at_end, ◌>>=◌}
use Rattle.check_text.specs.Callers.{PlainCallers, caller_named, kind_at}
use Rattle.check_text.specs.Characters.{chars_of}
use Rattle.check_text.specs.Answers.{answer_in}

-- ---- who made an entry: a caller of the port by its name, or one of four

abbrev pub makers : List Who
makers = Flusher ∷ Line ∷ Clock ∷ Session ∷ []

abbrev pub maker_of : List ℕ → Option Who
maker_of word = choice_of (who_text []) makers word

abbrev pub who_of : List (List ℕ) → List ℕ → Option Who
who_of names word = option_or (maker_of word) (option_map Caller (caller_named names word))

abbrev pub who_in : List (List ℕ) → List (List ℕ) → Read (Front Who)
who_in names words =
    word_in words >>= λ word. or_else Word (who_of names word.value) >>= λ who. Ok (in_front word.rest who)

-- ---- what an entry says

abbrev pub kind_text : EventKind → List ℕ
kind_text event.Answer = codes "answer"
kind_text event.Part = codes "part"
kind_text event.Wait = codes "wait"
kind_text event.Flush = codes "flush"
kind_text event.Tick = codes "tick"
kind_text event.LineEnd = codes "line_end"
kind_text event.ClockEnd = codes "clock_end"
kind_text event.CallerEnd = codes "caller_end"
kind_text event.PhaseEnd = codes "phase_end"
kind_text event.Hangup = codes "hangup"

abbrev pub call_kinds : List EventKind
call_kinds = event.Answer ∷ event.Part ∷ event.Wait ∷ []

abbrev pub other_kinds : List EventKind
other_kinds =
    event.Flush ∷ event.Tick ∷ event.LineEnd ∷ event.ClockEnd ∷ event.CallerEnd ∷ event.PhaseEnd ∷ event.Hangup ∷ []

-- the last of these
abbrev pub last_kinds : List EventKind
last_kinds = event.CallerEnd ∷ event.PhaseEnd ∷ event.Hangup ∷ []

abbrev pub kind_of : List ℕ → Option EventKind
kind_of word = option_or (choice_of kind_text call_kinds word) (choice_of kind_text other_kinds word)

-- the kind of the call that an entry speaks of: its maker is a caller, whose script has the step
abbrev pub call_of_entry : PlainCallers → Who → ℕ → Read AnswerKind
call_of_entry callers (Caller caller) step = or_else Order (kind_at callers caller step)
call_of_entry callers Flusher step = Err Word
call_of_entry callers Line step = Err Word
call_of_entry callers Clock step = Err Word
call_of_entry callers Session step = Err Word

abbrev pub chars_in : List (List ℕ) → Read (Front (List Flagged))
chars_in words = word_in words >>= λ word. or_else Hex (chars_of word.value) >>= λ chars. Ok (in_front word.rest chars)

-- an event with characters as its last word
abbrev pub ends_in_chars : (List Flagged → PlainEvent) → List (List ℕ) → Read PlainEvent
ends_in_chars event words = chars_in words >>= λ chars. at_end (event chars.value) chars.rest

abbrev pub ends_in_number : (ℕ → PlainEvent) → List (List ℕ) → Read PlainEvent
ends_in_number event words = number_in words >>= λ n. at_end (event n.value) n.rest

-- an answer, and what may follow it: `drop` and the characters that were dropped
abbrev pub with_dropped : PlainAnswer → List (List ℕ) → Read PlainEvent
with_dropped answer [] = Ok (answered answer [])
with_dropped answer (word ∷ words) =
    if bytes_eq word (codes "drop") then ends_in_chars (answered answer) words else Err Word

-- an event that no word follows
abbrev pub bare_by : EventKind → PlainEvent
bare_by event.Tick = ticked
bare_by event.ClockEnd = clock_ended
bare_by event.CallerEnd = caller_ended
bare_by kind = phase_ended

abbrev pub event_by : PlainCallers → Who → ℕ → EventKind → List (List ℕ) → Read PlainEvent
event_by callers who step event.Answer words =
    call_of_entry callers who step >>= λ kind. answer_in kind words >>= λ answer. with_dropped answer.value answer.rest
event_by callers who step event.Part words = call_of_entry callers who step >>= λ kind. ends_in_number parted words
event_by callers who step event.Wait words = call_of_entry callers who step >>= λ kind. at_end waited words
event_by callers who step event.Flush words = ends_in_chars flushed words
event_by callers who step event.Tick words = at_end ticked words
event_by callers who step event.LineEnd words = ends_in_number line_ended words
event_by callers who step event.ClockEnd words = at_end clock_ended words
event_by callers who step event.CallerEnd words = at_end caller_ended words
event_by callers who step event.PhaseEnd words = at_end phase_ended words
event_by callers who step event.Hangup words = ends_in_chars hung_up words

abbrev pub event_in : PlainCallers → Who → ℕ → List (List ℕ) → Read PlainEvent
event_in callers who step words =
    word_in words >>= λ word. or_else Word (kind_of word.value) >>= λ kind. event_by callers who step kind word.rest

-- WHO STEP PART GENERATION EVENT
abbrev pub entry_in : PlainCallers → List (List ℕ) → Read PlainEntry
entry_in callers words =
    who_in callers.names words
    >>= λ who. number_in who.rest >>= λ step. number_in step.rest >>= λ part. number_in part.rest >>= λ generation.
    event_in callers who.value step.value generation.rest >>= λ event.
    Ok (record { who = who.value; step = step.value; part = part.value; generation = generation.value; event = event })

-- ---- the other lines

-- a line that is one fixed word
abbrev pub fixed_in : List ℕ → List (List ℕ) → Read (Unit {0})
fixed_in text words = after_first text words >>= λ rest. at_end tt rest

-- a fixed word, the port that is due, and how many lines follow
abbrev pub heading_in : List ℕ → ℕ → List (List ℕ) → Read ℕ
heading_in text port words =
    after_first text words >>= λ rest. port_in port rest >>= λ rest. number_in rest >>= λ n. at_end n.value n.rest

-- AT SENT SEEN
abbrev pub overrun_in : List (List ℕ) → Read Overrun
overrun_in words =
    number_in words
    >>= λ at.
    number_in at.rest
    >>= λ sent.
    number_in sent.rest >>= λ seen. at_end (record { at = at.value; sent = sent.value; seen = seen.value }) seen.rest

abbrev pub numbers_in : ℕ → List (List ℕ) → Read LineNumbers
numbers_in port words =
    after_first (codes "line") words
    >>= λ rest.
    port_in port rest
    >>= λ rest. number_in rest >>= λ arrived. number_in arrived.rest >>= λ lost. number_in lost.rest >>= λ sent.
    at_end (record { arrived = arrived.value; lost = lost.value; sent = sent.value }) sent.rest
