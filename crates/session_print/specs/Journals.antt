-- The text of journals: what happened on each port, entry by entry, and what its line did.
use Rattle.std.specs.Prelude.{ℕ, List, [], ◌∷◌, ◌++◌, ◌+◌, ◌==◌, if◌then◌else◌}
use Rattle.std.specs.Prelude.{codes, decimal, length, flat_map, slice_index_or}
use Rattle.hex.specs.Hex.{encode_lower}
use Rattle.tty_base.specs.declared.characters.Flag.{Flag}
use Rattle.tty_base.specs.declared.characters.Flag.TheVariants as flags
use Rattle.tty_base.specs.declared.characters.Flagged.{Flagged}
use Rattle.tty_base.specs.declared.lines.LineReport.{LineReport}
use Rattle.tty_base.specs.declared.lines.Overrun.{Overrun}
use Rattle.tty_calls.specs.declared.journals.Who.{Who}
use Rattle.tty_calls.specs.declared.journals.Who.TheVariants.{Caller, Flusher, Line, Clock, Session}
use Rattle.tty_calls.specs.declared.journals.PortRun.{PortRun}
use Rattle.tty_calls.specs.Plain.{PlainEvent, answered, parted, waited, flushed, ticked, line_ended}
use Rattle.tty_calls.specs.Plain.{clock_ended, caller_ended, phase_ended, hung_up, PlainEntry}
use Rattle.tty_calls.specs.Sessions.{PlainSession, scripts_over, names_of}
use Rattle.session_print.specs.Words.{answer_text}
use Rattle.session_print.specs.Lines.{newline}

abbrev pub flag_letter : Flag → List ℕ
flag_letter flags.Normal = codes "n"
flag_letter flags.Break = codes "b"
flag_letter flags.Parity = codes "p"
flag_letter flags.Frame = codes "f"
flag_letter flags.Overrun = codes "o"

-- the letter of the flag, and the byte in hexadecimal
abbrev pub char_text : Flagged → List ℕ
char_text c = flag_letter c.flag ++ encode_lower (c.byte ∷ [])

abbrev pub chars_text : List Flagged → List ℕ
chars_text chars = if length chars == 0 then codes "-" else flat_map char_text chars

-- characters that were dropped beside an answer
abbrev pub beside_text : List Flagged → List ℕ
beside_text dropped = if length dropped == 0 then [] else codes " drop " ++ flat_map char_text dropped

abbrev pub event_text : PlainEvent → List ℕ
event_text (answered answer dropped) = codes "answer " ++ (answer_text answer ++ beside_text dropped)
event_text (parted taken) = codes "part " ++ decimal taken
event_text waited = codes "wait"
event_text (flushed chars) = codes "flush " ++ chars_text chars
event_text ticked = codes "tick"
event_text (line_ended sent) = codes "line_end " ++ decimal sent
event_text clock_ended = codes "clock_end"
event_text caller_ended = codes "caller_end"
event_text phase_ended = codes "phase_end"
event_text (hung_up dropped) = codes "hangup " ++ chars_text dropped

-- a caller is told by its name, by the names of the port's callers
abbrev pub who_text : List (List ℕ) → Who → List ℕ
who_text names (Caller number) = slice_index_or names number []
who_text names Flusher = codes "*flush"
who_text names Line = codes "*line"
who_text names Clock = codes "*clock"
who_text names Session = codes "*session"

-- WHO STEP PART GENERATION EVENT
abbrev pub entry_line : List (List ℕ) → PlainEntry → List ℕ
entry_line names e =
    who_text names e.who
    ++ (codes " " ++ (decimal e.step ++ (codes " " ++ (decimal e.part ++ (codes " " ++ (decimal e.generation
    ++ (codes " " ++ (event_text e.event ++ newline))))))))

-- AT SENT SEEN
abbrev pub overrun_line : Overrun → List ℕ
overrun_line o = decimal o.at ++ (codes " " ++ (decimal o.sent ++ (codes " " ++ (decimal o.seen ++ newline))))

-- a word, a port's number, and how many lines follow
abbrev pub heading : List ℕ → ℕ → ℕ → List ℕ
heading word p lines = word ++ (codes " " ++ (decimal p ++ (codes " " ++ (decimal lines ++ newline))))

abbrev pub line_numbers : ℕ → LineReport → List ℕ
line_numbers p r =
    codes "line "
    ++ (decimal p
    ++ (codes " "
    ++ (decimal r.arrived ++ (codes " " ++ (decimal r.fifo_lost ++ (codes " " ++ (decimal r.sent ++ newline)))))))

-- the journal of a port, its overruns, and the numbers of its line
abbrev pub journal_on : ℕ → PlainSession → PortRun → List ℕ
journal_on p session run =
    heading (codes "journal") p (length run.journal.items)
    ++ (flat_map (entry_line (names_of (scripts_over p session.phases))) run.journal.items
    ++ (heading (codes "overruns") p (length run.line.overruns.items)
    ++ (flat_map overrun_line run.line.overruns.items ++ line_numbers p run.line)))

-- the journals of all ports, from this port on; there is one run for each port
abbrev pub journals_from : ℕ → PlainSession → List PortRun → List ℕ
journals_from p session [] = []
journals_from p session (run ∷ runs) = journal_on p session run ++ journals_from (p + 1) session runs

abbrev pub journals_text : PlainSession → List PortRun → List ℕ
journals_text session runs = codes "journals" ++ (newline ++ journals_from 0 session runs)
