-- What a call of the program came to: what was read, the runs, and the text that was given.
use Rattle.std.specs.Prelude.{◌≡◌, ◌≢◌, ℕ, List, [], ◌∷◌, ◌++◌, Bool, if◌then◌else◌, codes, Option}
use Rattle.std.specs.Prelude.{None, Some, length, map, flat_map, option_to_list, slice_get, IfSome}
use Rattle.std.specs.List.{concat, AllZip}
use Rattle.tty_base.specs.Outside.{Rose, TookCount, GivesFront}
use Rattle.tty_calls.specs.declared.journals.PortRun.{PortRun}
use Rattle.tty_calls.specs.Plain.{PlainAnswer, PlainEntry}
use Rattle.tty_calls.specs.Sessions.{PlainSession}
use Rattle.session_text.specs.declared.faults.BadLine.{BadLine}
use Rattle.session_text.specs.Refusals.{refusal}
use Rattle.session_text.specs.Grammar.{Spells}
use Rattle.session_print.specs.Ends.{PlainEnd}
use Rattle.session_print.specs.Report.{ToldCall, told_on, answer_by, answer_in, calls_from, ports_from}
use Rattle.session_print.specs.Lines.{newline}
use Rattle.session_print.specs.Journals.{journals_text}
use Rattle.session_print.specs.Laws.{IsLineOf}
use Rattle.session_gen.specs.Generated.{generated_session}
use Rattle.check_text.specs.Grammar.{Spells as SpellsRuns}
use Rattle.check_text.specs.Printed.{text_after}
use Rattle.check_text.specs.Reading.{refusal as refusal_of_runs}
use Rattle.check_text.specs.Runs.{run_of}
use Rattle.legal_runs.specs.Ports.{AreLegal}
use Rattle.journal_check.specs.Verdicts.{VerdictFits}
use Rattle.journal_check.specs.declared.verdicts.Verdict.{Verdict}
use Rattle.journal_check.specs.declared.verdicts.Verdict.TheVariants.{Legal}
use Rattle.tty_one.specs.declared.words.Command.{Command}
use Rattle.tty_one.specs.declared.words.Command.TheVariants.{Run, RunOne, Modem, Jobs, Gen, Check, Vt, VtOne}
use Rattle.tty_one.specs.declared.playing.Telling.TheVariants.{Report, Summary}
use Rattle.tty_one.specs.Endings.{Ask, line_of, bad_session_line, verdict_line, IsStatusOr}
use Rattle.tty_one.specs.Reported.{Returned, nothing, IsOrdered, IsInAnyOrder, IsReported, IsAllOf}
use Rattle.tty_one.specs.Consoles.{AreConsolesInOrder, AreConsolesOnThreads, IsToldOfConsoles, consoles_refusal}
use Rattle.tty_one.specs.Processes.{IsToldOfProcesses, processes_refusal}
use Rattle.tty_one.specs.ModemLines.{IsToldOfModemLines, modem_lines_refusal}

-- A session was read and played: the text that was read spells it.
pub record IsPlayedText (left : Option (List ℕ)) (EndsBy : PlainSession → Type 0) : Type 0 where
  pub read : List ℕ
  pub session : PlainSession
  pub whole : IsAllOf left read
  pub spelled : Spells read session
  pub ends : EndsBy session

-- Runs were read and judged: the text that was read spells a session and these runs, and this is the verdict that
-- fits them.
pub record IsJudged (left : Option (List ℕ)) (verdict : Verdict) : Type 0 where
  pub read : List ℕ
  pub session : PlainSession
  pub runs : List PortRun
  pub whole : IsAllOf left read
  pub spelled : SpellsRuns read session (map run_of runs)
  pub fits : VerdictFits session runs verdict

-- The runs that were read were judged, none is returned, and the text tells the verdict.
pub record IsToldVerdict (left : Option (List ℕ)) (verdict : Verdict) (runs : List PortRun)
    (text : List ℕ) : Type 0 where
  pub judged : IsJudged left verdict
  pub no_runs : runs ≡ []
  pub told : text ≡ verdict_line verdict

-- What a command asks for was done, and the text tells it: the session that was read, or the one of the number, was
-- played; or each run that was read is legal.
abbrev pub IsToldBy : Command → Option (List ℕ) → Returned → List ℕ → Type 0
IsToldBy (Run journals) left back text =
    IsPlayedText left (λ session. IsReported IsInAnyOrder (Report journals) session back.runs text)
IsToldBy (RunOne journals) left back text =
    IsPlayedText left (λ session. IsReported IsOrdered (Report journals) session back.runs text)
IsToldBy Modem left back text = IsToldOfModemLines left back text
IsToldBy Jobs left back text = IsToldOfProcesses left back text
IsToldBy (Gen number) left back text = IsReported IsOrdered (Summary number) (generated_session number) back.runs text
IsToldBy Check left back text = IsToldVerdict left Legal back.runs text
IsToldBy Vt left back text = IsToldOfConsoles AreConsolesOnThreads left back text
IsToldBy VtOne left back text = IsToldOfConsoles AreConsolesInOrder left back text

-- the first wrong line of a text, by the grammar of what a command reads
abbrev pub refusal_by : Command → List ℕ → Option BadLine
refusal_by (Run journals) text = refusal text
refusal_by (RunOne journals) text = refusal text
refusal_by Modem text = modem_lines_refusal text
refusal_by Jobs text = processes_refusal text
refusal_by (Gen number) text = None
refusal_by Check text = refusal_of_runs text
refusal_by Vt text = consoles_refusal text
refusal_by VtOne text = consoles_refusal text

-- The text that was read is not in its grammar, and this is its first wrong line.
pub record IsRefused (first_wrong : List ℕ → Option BadLine) (left : Option (List ℕ)) (bad : BadLine) : Type 0 where
  pub read : List ℕ
  pub whole : IsAllOf left read
  pub refused : first_wrong read ≡ Some bad

-- where the sink tells what it was given, it was given this text, or a front of it
abbrev pub WasGiven : Option (List ℕ) → Option (List ℕ) → List ℕ → Type 0
WasGiven before now text = IfSome before (λ bytes. now ≡ Some (bytes ++ text))

abbrev pub WasGivenFront : Option (List ℕ) → Option (List ℕ) → List ℕ → Type 0
WasGivenFront before now text = IfSome before (λ bytes. GivesFront bytes text now)

-- two sinks were given the same text
abbrev pub GaveTheSame : (before before' : List ℕ) (now now' : Option (List ℕ)) → Type 0
GaveTheSame before before' now now' = (text : List ℕ) × (now ≡ Some (before ++ text)) × (now' ≡ Some (before' ++ text))

-- A text that was refused was told as that.
pub record IsToldRefused (words : List (List ℕ)) (left before now : Option (List ℕ)) : Type 0 where
  pub command : Command
  pub bad : BadLine
  pub asked : Ask command words
  pub refused : IsRefused (refusal_by command) left bad
  pub given : WasGiven before now (bad_session_line bad)

-- Runs that are not all legal were told as that.
pub record IsToldIllegal (words : List (List ℕ)) (left before now : Option (List ℕ)) : Type 0 where
  pub verdict : Verdict
  pub asked : Ask Check words
  pub judged : IsJudged left verdict
  pub illegal : verdict ≢ Legal
  pub given : WasGiven before now (verdict_line verdict)

-- What the words ask for was done and told.
pub record IsDone (words : List (List ℕ)) (left before now : Option (List ℕ)) (back : Returned) : Type 0 where
  pub command : Command
  pub text : List ℕ
  pub asked : Ask command words
  pub done : IsToldBy command left back text
  pub given : WasGiven before now text

-- A text could not be given whole: the line for other words; the line of a fault of the source, or of a text that is
-- too long, where the words ask for a text to be read; the line of a text that was refused; what was to be told of
-- what was done; or the line of runs that are not all legal.
pub data IsBroken (Known Reading : Type 0) (words : List (List ℕ)) (faults faults' : ℕ)
    (left rest before now : Option (List ℕ)) (back : Returned) : Type 0 where
  breaks_words : (Known → ⊥)
      → back ≡ nothing
      → WasGivenFront before now (line_of 2)
      → IsBroken Known Reading words faults faults' left rest before now back
  breaks_fault : Reading
      → Rose faults faults'
      → back ≡ nothing
      → WasGivenFront before now (line_of 3)
      → IsBroken Known Reading words faults faults' left rest before now back
  breaks_long : Reading
      → IfSome left (λ bytes. TookCount 4194305 bytes rest)
      → back ≡ nothing
      → WasGivenFront before now (line_of 6)
      → IsBroken Known Reading words faults faults' left rest before now back
  breaks_refusal : (command : Command) (bad : BadLine)
      → Ask command words
      → IsRefused (refusal_by command) left bad
      → back ≡ nothing
      → WasGivenFront before now (bad_session_line bad)
      → IsBroken Known Reading words faults faults' left rest before now back
  breaks_text : (command : Command) (text : List ℕ)
      → Ask command words
      → IsToldBy command left back text
      → WasGivenFront before now text
      → IsBroken Known Reading words faults faults' left rest before now back
  breaks_verdict : (verdict : Verdict) (text : List ℕ)
      → Ask Check words
      → IsToldVerdict left verdict back.runs text
      → verdict ≢ Legal
      → WasGivenFront before now text
      → IsBroken Known Reading words faults faults' left rest before now back

-- A text that spells a session is played, and one that is refused is told as that.
pub record Completes (bytes : List ℕ) (status : ℕ) : Type 0 where
  pub played : (session : PlainSession) → Spells bytes session → IsStatusOr 0 status
  pub refused : (bad : BadLine) → refusal bytes ≡ Some bad → IsStatusOr 1 status

-- Runs that a text spells are told as legal exactly where all are, and a text that is refused is told as that.
pub record CompletesCheck (bytes : List ℕ) (status : ℕ) : Type 0 where
  pub legal : (session : PlainSession) (runs : List PortRun)
      → SpellsRuns bytes session (map run_of runs)
      → AreLegal session runs
      → IsStatusOr 0 status
  pub illegal : (session : PlainSession) (runs : List PortRun)
      → SpellsRuns bytes session (map run_of runs)
      → (AreLegal session runs → ⊥)
      → IsStatusOr 7 status
  pub refused : (bad : BadLine) → refusal_of_runs bytes ≡ Some bad → IsStatusOr 1 status

-- behind a session's text, what its report has from the journals on
abbrev pub with_journals : List ℕ → PlainSession → List PortRun → List ℕ
with_journals text session runs = text ++ (newline ++ text_after session runs)

-- A report is the lines of the calls and of the ports, and then the journals. Behind the session's text these spell
-- the session and the runs, no verdict but legal fits them, and they are told to be legal where they can be read.
pub record IsReadBack (text : List ℕ) (session : PlainSession) (runs : List PortRun) (report : List ℕ) : Type 0 where
  pub ends : List PlainEnd
  pub told : report ≡ (calls_from 0 session runs ++ ports_from 0 session runs ends) ++ text_after session runs
  pub spelled : SpellsRuns (with_journals text session runs) session (map run_of runs)
  pub judged : (verdict : Verdict) → IsJudged (Some (with_journals text session runs)) verdict → verdict ≡ Legal
  pub checked : (status : ℕ) → CompletesCheck (with_journals text session runs) status → IsStatusOr 0 status

-- what was given is a report, with its journals, of the session that these bytes spell, and it is read back
pub record GaveJournals (bytes before : List ℕ) (now : Option (List ℕ)) (runs : List PortRun) : Type 0 where
  pub session : PlainSession
  pub report : List ℕ
  pub spelled : Spells bytes session
  pub given : now ≡ Some (before ++ report)
  pub read_back : IsReadBack bytes session runs report

-- all answers of a journal to a caller's step
abbrev pub answers_to : List PlainEntry → ℕ → ℕ → List PlainAnswer
answers_to es c step = flat_map (λ e. option_to_list (answer_by e c step)) es

-- the call of a caller's step has one Answer entry, and its answer is the one that a report prints
pub record IsAnsweredOnce (es : List PlainEntry) (c step : ℕ) : Type 0 where
  pub answer : PlainAnswer
  pub once : answers_to es c step ≡ answer ∷ []
  pub printed : answer_in es c step ≡ Some answer

-- The line of a call in a report: the answer that it has is that of the one Answer entry of this caller and step.
pub record IsOnlyLineOf (p : ℕ) (session : PlainSession) (es : List PlainEntry) (told : ToldCall)
    (line : List ℕ) : Type 0 where
  pub tells : IsLineOf p session es told line
  pub once : answers_to es tells.caller told.step ≡ tells.answer ∷ []

-- the lines of a port's calls: one for each, in the text's order
abbrev pub AreLinesOf : ℕ → PlainSession → PortRun → List (List ℕ) → Type 0
AreLinesOf p session run lines = AllZip (IsOnlyLineOf p session run.journal.items) (told_on p session) lines

-- what a report has behind the lines of the calls
abbrev pub after_calls : Bool → PlainSession → List PortRun → List PlainEnd → List ℕ
after_calls journals session runs ends =
    ports_from 0 session runs ends
    ++ ((if journals then journals_text session runs else []) ++ (codes "done" ++ newline))

-- The text of a report is the lines of the calls, port by port, and what stands behind them.
pub record TellsEachOnce (journals : Bool) (session : PlainSession) (runs : List PortRun) (text : List ℕ) : Type 0 where
  pub ports : List (List (List ℕ))
  pub ends : List PlainEnd
  pub of_all : length ports ≡ length runs
  pub each : (p : ℕ) (run : PortRun) (lines : List (List ℕ))
      → slice_get runs p ≡ Some run
      → slice_get ports p ≡ Some lines
      → AreLinesOf p session run lines
  pub told : text ≡ concat (map concat ports) ++ after_calls journals session runs ends
