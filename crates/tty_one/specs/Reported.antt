-- What is told of a session that was played: of its runs, each of them whole, and of their ends.
use Rattle.std.specs.Prelude.{◌<◌, ◌≡◌, ℕ, List, [], Option, None, Some, length, option_map, slice_get, IfSome}
use Rattle.tty_base.specs.Sizes.{MOST_ENTRIES}
use Rattle.tty_calls.specs.declared.journals.PortRun.{PortRun}
use Rattle.tty_calls.specs.Sessions.{PlainSession, session_of}
use Rattle.tty_terminal.specs.Terminals.{Terminal}
use Rattle.session_print.specs.Ends.{PlainEnd}
use Rattle.session_print.specs.Report.{play_text}
use Rattle.session_print.specs.Summary.{summary_text}
use Rattle.legal_runs.specs.Legal.{IsLegal}
use Rattle.legal_runs.specs.Order.{IsInOneOrder}
use Rattle.passed_calls.specs.declared.logs.Logged.{Logged}
use Rattle.modem_text.specs.declared.logs.ModemEvent.{ModemEvent}
use Rattle.job_text.specs.declared.logs.JobEvent.{JobEvent}
use Rattle.vt_consoles.specs.declared.entries.VtEntry.{VtEntry}
use Rattle.tty_one.specs.declared.works.Ran.{Ran}
use Rattle.tty_one.specs.declared.playing.Telling.{Telling}
use Rattle.tty_one.specs.declared.playing.Telling.TheVariants.{Report, Summary}

-- what a call returns beside its status: the runs of ports or of consoles, the entries of a board, the logs of ports
-- with modem lines and of processes, and the session that these were played
pub record Returned : Type 0 where
  pub runs : List PortRun
  pub entries : List VtEntry
  pub modem_log : List (Logged ModemEvent)
  pub log : List (Logged JobEvent)
  pub derived : Option PlainSession

abbrev pub returned : Ran → Returned
returned ran = record {
  runs = ran.runs.items;
  entries = ran.vt.items;
  modem_log = ran.modem.items;
  log = ran.jobs.items;
  derived = option_map session_of ran.derived;
}

abbrev pub nothing : Returned
nothing = record { runs = []; entries = []; modem_log = []; log = []; derived = None }

-- what a report says of the end of a terminal
abbrev pub end_at : Terminal → PlainEnd
end_at t =
    record { counts = t.tally.counts; signals = t.tally.signals.items; generation = t.generation; wire = t.output.wire }

-- the run of a port is in the order of one thread
abbrev pub IsOrdered : ℕ → PlainSession → PortRun → Type 0
IsOrdered p session run = IsInOneOrder p session run.journal.items run.line.overruns.items

-- on threads the entries of different makers are in no order of their own
abbrev pub IsInAnyOrder : ℕ → PlainSession → PortRun → Type 0
IsInAnyOrder p session run = Unit {0}

-- The run of a port is legal and in order, this is the end of the terminal to which it leads, and its journal did not
-- reach the limit.
pub record IsWhole (InOrder : ℕ → PlainSession → PortRun → Type 0) (p : ℕ) (session : PlainSession) (run : PortRun)
    (end : PlainEnd) : Type 0 where
  pub terminal : Terminal
  pub at_end : end ≡ end_at terminal
  pub legal : IsLegal p session run terminal
  pub in_order : InOrder p session run
  pub room : length run.journal.items < MOST_ENTRIES

-- what is told of a session that was played, of the runs of its ports, and of their ends
abbrev pub text_by : Telling → PlainSession → List PortRun → List PlainEnd → List ℕ
text_by (Report journals) session runs ends = play_text journals session runs ends
text_by (Summary number) session runs ends = summary_text number session runs ends

-- The runs are those of the session's ports, one of each, each of them whole. The text is what is told of these runs,
-- and of their ends.
pub record IsToldAs (InOrder : ℕ → PlainSession → PortRun → Type 0) (text_of : List PortRun → List PlainEnd → List ℕ)
    (session : PlainSession) (runs : List PortRun) (text : List ℕ) : Type 0 where
  pub ends : List PlainEnd
  pub runs_of_all : length runs ≡ session.ports
  pub ends_of_all : length ends ≡ session.ports
  pub each : (p : ℕ) (run : PortRun) (end : PlainEnd)
      → slice_get runs p ≡ Some run
      → slice_get ends p ≡ Some end
      → IsWhole InOrder p session run end
  pub told : text ≡ text_of runs ends

-- .. and it is what is told of the session
abbrev pub IsReported : (InOrder : ℕ → PlainSession → PortRun → Type 0) (telling : Telling) (session : PlainSession)
    (runs : List PortRun) (text : List ℕ)
    → Type 0
IsReported InOrder telling session runs text = IsToldAs InOrder (text_by telling session) session runs text

-- a text that was read is all that the source had left, where it tells
abbrev pub IsAllOf : Option (List ℕ) → List ℕ → Type 0
IsAllOf left read = IfSome left (λ bytes. read ≡ bytes)
