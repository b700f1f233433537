-- What happened beside ports whose callers are processes.
use Rattle.std.specs.Prelude.{ℕ, ◌==◌, List, map, filter}
use Rattle.tty_calls.specs.Plain.{PlainAnswer, answer_of}
use Rattle.job_control.specs.declared.processes.JobSignal.{JobSignal}
use Rattle.job_control.specs.declared.answers.JobAnswer.{JobAnswer}
use Rattle.job_control.specs.declared.answers.Target.{Target}
use Rattle.passed_calls.specs.declared.logs.Logged.{Logged}
use Rattle.job_text.specs.declared.logs.JobEvent.{JobEvent as KeptEvent}
use Rattle.job_text.specs.declared.logs.JobEvent.TheVariants as kept

-- A call is answered without the port; the port has answered a call; a process that ends has the port hung up through
-- this handle; a signal is sent.
pub data JobEvent : Type 0 where
  own : (caller step : ℕ) (answer : JobAnswer) → JobEvent
  passed : (caller step : ℕ) (answer : PlainAnswer) → JobEvent
  passed_down : (caller h : ℕ) → JobEvent
  sent : (signal : JobSignal) (target : Target) → JobEvent

abbrev pub JobLog : Type 0
JobLog = List (Logged JobEvent)

-- what happened on a port, in order
abbrev pub events_on : ℕ → JobLog → List JobEvent
events_on p log = map (λ l. l.event) (filter (λ l. l.port == p) log)

-- what an event that is kept is
abbrev pub event_of : KeptEvent → JobEvent
event_of (kept.Own c step answer) = own c step answer
event_of (kept.Passed c step answer) = passed c step (answer_of answer)
event_of (kept.Down c h) = passed_down c h
event_of (kept.Sent signal target) = sent signal target

abbrev pub logged_of : Logged KeptEvent → Logged JobEvent
logged_of l = record { port = l.port; at = l.at; event = event_of l.event }
