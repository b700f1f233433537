-- What playing a session of processes on one thread comes to.
use Rattle.std.specs.Prelude.{◌≡◌, ℕ, List, [], ◌++◌, Option, None, Some, Result, Ok, Err, map, slice_get}
use Rattle.tty_calls.specs.declared.journals.PortRun.{PortRun}
use Rattle.session_text.specs.declared.faults.BadLine.{BadLine}
use Rattle.job_control.specs.declared.processes.Proc.{Proc}
use Rattle.passed_calls.specs.Derived.{Passed}
use Rattle.passed_calls.specs.Logs.{logged_on}
use Rattle.job_text.specs.Events.{JobLog, logged_of}
use Rattle.job_text.specs.Reading.{jobs_in}
use Rattle.job_text.specs.Sessions.{JobsSession}
use Rattle.job_steps.specs.Derived.{derived, passings_on}
use Rattle.job_steps.specs.Steps.{first_state}
use Rattle.job_steps.specs.Order.{AreEventsInTurn}
use Rattle.job_one.specs.Played.{begun_in, port_in, IsLoggedWhole}
use Rattle.further_report.specs.Jobs.{jobs_report_text}
use Rattle.tty_one.specs.Endings.{IsStatusOr}
use Rattle.tty_one.specs.Reported.{Returned, IsOrdered, IsToldAs, IsAllOf}
use Rattle.order_laws.specs.Sessions.{journal_on}

-- nothing is said of the room behind the names of processes
abbrev pub bare_proc : Proc → Proc
bare_proc proc = record proc { name = record { bytes = proc.name.bytes; spare = [] } }

abbrev pub bare_of : JobsSession → JobsSession
bare_of session = record session { procs = map (λ procs. map bare_proc procs) session.procs }

-- the first wrong line of a text that spells no session of processes
abbrev pub fault_in : Result JobsSession BadLine → Option BadLine
fault_in (Ok session) = None
fault_in (Err bad) = Some bad

abbrev pub processes_refusal : List ℕ → Option BadLine
processes_refusal text = fault_in (jobs_in text)

abbrev pub log_of : Returned → JobLog
log_of back = map logged_of back.log

-- what the ports were passed: what they have answered, and what they have begun and not answered
abbrev pub given_to : JobsSession → JobLog → List PortRun → Passed
given_to session log runs p = passings_on session log p ++ begun_in session log p (journal_on runs p)

-- The log of a port is a whole run of job control beside the port's journal: each call of each process is answered
-- once, in its order; who is in the background reads nothing, and each of the port's signals goes to the group that is
-- in the foreground then. And each event is in its turn in the order of one thread.
pub record IsLoggedOn (p : ℕ) (session : JobsSession) (log : JobLog) (run : PortRun) : Type 0 where
  pub whole : IsLoggedWhole (port_in session (derived session log) p run.journal.items) log
  pub in_turn : AreEventsInTurn (derived session log) (port_in session (derived session log) p run.journal.items)
      (first_state (port_in session (derived session log) p run.journal.items)) (logged_on p log)

-- A session of processes was played on one thread. The run of each port is legal, and in the order of one thread, for
-- the session that the log derives of it: the calls that were passed down, and the hangups of processes that ended.
-- Each port has its log. And the text is the report of the session, of the log, of these runs and of the ports' ends.
pub record AreProcessesPlayed (session : JobsSession) (back : Returned) (text : List ℕ) : Type 0 where
  pub told : IsToldAs IsOrdered (jobs_report_text (bare_of session) (log_of back)) (derived session (log_of back))
      back.runs text
  pub logged : (p : ℕ) (run : PortRun) → slice_get back.runs p ≡ Some run → IsLoggedOn p session (log_of back) run
  pub derives : back.derived ≡ Some (derived session (log_of back))

-- the text that was read spells a session of processes, which was played
pub record IsToldOfProcesses (left : Option (List ℕ)) (back : Returned) (text : List ℕ) : Type 0 where
  pub read : List ℕ
  pub session : JobsSession
  pub whole : IsAllOf left read
  pub spelled : jobs_in read ≡ Ok (bare_of session)
  pub played : AreProcessesPlayed session back text

-- A text that spells a session of processes is played, and one that is refused is told as that.
pub record CompletesProcesses (bytes : List ℕ) (status : ℕ) : Type 0 where
  pub played : (session : JobsSession) → jobs_in bytes ≡ Ok session → IsStatusOr 0 status
  pub refused : (bad : BadLine) → processes_refusal bytes ≡ Some bad → IsStatusOr 1 status
