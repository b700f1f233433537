-- What is found of the run of one port: for private functions alone.
use Rattle.std.specs.Prelude.{◌≡◌, ℕ, ◌<◌, List, Option, None, Some, length, slice_get}
use Rattle.tty_base.specs.Lines.{arrival_count}
use Rattle.tty_calls.specs.declared.journals.PortRun.{PortRun}
use Rattle.tty_calls.specs.Sessions.{PlainSession}
use Rattle.tty_terminal.specs.Runs.{chars_of}
use Rattle.uart_line.specs.Received.{received_list, lost_count}
use Rattle.uart_line.specs.Offered.{kept_list}
use Rattle.legal_runs.specs.Legal.{script_on, IsFinished, IsLegalOn}
use Rattle.journal_check.specs.Verdicts.{HasNoWrong, IsFirstWrong}
use Rattle.legal_runs.specs.Ports.{IsLegalAt}
use Rattle.journal_check.specs.declared.checking.Finding.{Finding}
use Rattle.journal_check.specs.declared.checking.Finding.TheVariants.{Legal, Wrong, Account}

-- the account of a port without what the overruns have seen, where they are shown at a full buffer
pub record IsAccountKept (p : ℕ) (session : PlainSession) (run : PortRun) : Type 0 where
  pub arrived : run.line.arrived ≡ arrival_count (script_on p session)
  pub fifo_lost : run.line.fifo_lost ≡ lost_count (script_on p session)
  pub sent : run.line.sent ≡ length (kept_list (received_list (script_on p session)) run.line.overruns.items)
  pub chars : chars_of run.journal.items ≡ kept_list (received_list (script_on p session)) run.line.overruns.items
  pub finished : IsFinished p session run.line.overruns.items run.journal.items

abbrev pub Finds : ℕ → PlainSession → PortRun → Finding → Type 0
Finds p session run Legal = IsLegalOn p session run
Finds p session run (Wrong place) = IsFirstWrong p session run.journal.items place
Finds p session run Account = HasNoWrong p session run.journal.items × (IsLegalOn p session run → ⊥)

-- the first port so far that is not legal although no entry is wrong
pub record IsFirstAccount (session : PlainSession) (runs : List PortRun) (p : ℕ) : Type 0 where
  pub run : PortRun
  pub is_run : slice_get runs p ≡ Some run
  pub before : (q : ℕ) → q < p → IsLegalAt session runs q
  pub not_legal : IsLegalOn p session run → ⊥

abbrev pub FoundSoFar : PlainSession → List PortRun → ℕ → Option ℕ → Type 0
FoundSoFar session runs ports None = (q : ℕ) → q < ports → IsLegalAt session runs q
FoundSoFar session runs ports (Some p) = IsFirstAccount session runs p

abbrev pub first_found : Option ℕ → ℕ → Option ℕ
first_found None port = Some port
first_found (Some first) port = Some first
