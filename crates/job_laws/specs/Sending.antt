-- What a log says of reads that the port was passed, and of the signals that it raised.
use Rattle.std.specs.Prelude.{◌≡◌, ℕ, ◌-◌, nat_le, true, Some, [], ◌∷◌, ◌++◌, slice_get, if◌then◌else◌}
use Rattle.tty_calls.specs.Plain.{reads, PlainAnswer, PlainEntry}
use Rattle.tty_terminal.specs.Terminals.{handle_at}
use Rattle.tty_terminal.specs.Outcomes.{may_read}
use Rattle.job_control.specs.Control.{JobState}
use Rattle.job_control.specs.declared.answers.Target.{Target}
use Rattle.job_control.specs.declared.processes.JobSignal.{JobSignal}
use Rattle.job_control.specs.declared.processes.JobSignal.TheVariants.{Int, Quit, Susp, Ttin, Ttou, Hup, Cont}
use Rattle.passed_calls.specs.declared.logs.Logged.{Logged}
use Rattle.passed_calls.specs.Journals.{terminal_at}
use Rattle.passed_calls.specs.Logs.{logged_on}
use Rattle.passed_calls.specs.Scripts.{plain}
use Rattle.job_text.specs.Events.{JobEvent, passed, sent, JobLog}
use Rattle.job_steps.specs.Derived.{job_call_at}
use Rattle.job_steps.specs.Steps.{Port, JobsState, first_state, after_event, is_usable, first_place}

-- where these events lead
abbrev pub state_after : Port → JobsState → JobLog → JobsState
state_after port s [] = s
state_after port s (l ∷ log) = state_after port (after_event port s l.at l.event) log

-- the first events of a log: those that were logged after at most so many entries
abbrev pub logged_by : (entries : ℕ) → JobLog → JobLog
logged_by n [] = []
logged_by n (l ∷ log) = if nat_le l.at n then l ∷ logged_by n log else []

-- job control of a port after so many entries, and all that was logged by then
abbrev pub jobs_at : Port → JobLog → (entries : ℕ) → JobState
jobs_at port log n = (state_after port (first_state port) (logged_by n (logged_on port.number log))).now.jobs

-- A caller's read was passed to the port, which has answered it. The read began after so many entries: the next one is
-- its first. Its handle was live then, and one for reading.
pub record IsReadPassed (port : Port) (log : JobLog) (c entries : ℕ) : Type 0 where
  pub before : JobLog
  pub event : Logged JobEvent
  pub after : JobLog
  pub parts : logged_on port.number log ≡ before ++ event ∷ after
  pub step : ℕ
  pub answer : PlainAnswer
  pub is_passed : event.event ≡ passed c step answer
  pub handle : ℕ
  pub count : ℕ
  pub call : job_call_at port.number port.session c step ≡ Some (plain (reads handle count))
  pub entry : PlainEntry
  pub answered : slice_get port.journal.entries (event.at - 1) ≡ Some entry
  pub began : first_place port.journal c entry.step ≡ entries
  pub usable : is_usable may_read (handle_at (terminal_at port.journal entries) handle) ≡ true

-- the port raises these signals of job control, and no others
abbrev pub IsOfPort : JobSignal → Type 0
IsOfPort Int = Unit {0}
IsOfPort Quit = Unit {0}
IsOfPort Susp = Unit {0}
IsOfPort Ttin = ⊥
IsOfPort Ttou = ⊥
IsOfPort Hup = ⊥
IsOfPort Cont = ⊥

-- a signal of the port was sent, when job control stood so
pub record IsPortSignalSent (port : Port) (log : JobLog) (jobs : JobState) (target : Target) : Type 0 where
  pub before : JobLog
  pub event : Logged JobEvent
  pub after : JobLog
  pub parts : logged_on port.number log ≡ before ++ event ∷ after
  pub signal : JobSignal
  pub of_port : IsOfPort signal
  pub is_sent : event.event ≡ sent signal target
  pub stood : (state_after port (first_state port) before).now.jobs ≡ jobs
