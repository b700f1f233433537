-- Reading a text that is checked: the session up to `end`, then the journals line by line; or the first wrong line.
use Rattle.std.specs.Prelude.{ℕ, List, Option, None, Some, Result, Ok, Err}
use Rattle.tty_calls.specs.Sessions.{PlainSession}
use Rattle.session_text.specs.declared.faults.BadLine.{BadLine}
use Rattle.session_text.specs.Fronts.{PlainFront, front_in}
use Rattle.check_text.specs.Journals.{first_journals, then_on, runs_from}
use Rattle.check_text.specs.Runs.{PlainRun}

-- a session, and the run of each of its ports
pub record PlainCheck : Type 0 where
  pub session : PlainSession
  pub runs : List PlainRun

abbrev pub check_with : PlainSession → List PlainRun → Result PlainCheck BadLine
check_with session runs = Ok (record { session = session; runs = runs })

-- what the lines after a session are read as
abbrev pub check_after : PlainFront → Result PlainCheck BadLine
check_after front = then_on (runs_from (first_journals front.session) front.line front.rest) (check_with front.session)

abbrev pub check_in : List ℕ → Result PlainCheck BadLine
check_in text = then_on (front_in text) check_after

abbrev pub fault_of : Result PlainCheck BadLine → Option BadLine
fault_of (Ok check) = None
fault_of (Err line) = Some line

-- the first wrong line of a text, and why it is wrong
abbrev pub refusal : List ℕ → Option BadLine
refusal text = fault_of (check_in text)
