-- What is noted at the desk of a port.
use Rattle.std.specs.Prelude.{◌≡◌, ◌≤◌, ◌+◌, ℕ, All, Bool, true, false, if◌then◌else◌, Option, None, Some}
use Rattle.std.specs.Prelude.{List, [], ◌∷◌, ◌++◌, length, drop, slice_index_or, slice_set, unwrap_or}
use Rattle.tty_base.specs.declared.counters.Signal.{Signal}
use Rattle.tty_calls.specs.Plain.{PlainCall, hangs_up, PlainAnswer, done, PlainEntry}
use Rattle.tty_calls.specs.declared.calls.Access.{Access}
use Rattle.tty_terminal.specs.Outcomes.{may_read, may_write}
use Rattle.port_core.specs.Ports.{PortValue, IsPort}
use Rattle.job_control.specs.Control.{JobState, let_go, leader_of}
use Rattle.job_control.specs.declared.answers.Target.TheVariants as towards
use Rattle.job_control.specs.declared.processes.JobSignal.TheVariants.{Hup, Cont}
use Rattle.job_control.specs.declared.answers.JobAnswer.{JobAnswer}
use Rattle.job_control.specs.declared.answers.JobAnswer.TheVariants as told
use Rattle.job_control.specs.declared.processes.Judged.{Judged}
use Rattle.job_control.specs.declared.processes.JobAct.{JobAct}
use Rattle.job_control.specs.declared.processes.JobAct.TheVariants.{Read, Write, Change}
use Rattle.play_base.specs.Roles.{Scene}
use Rattle.job_text.specs.Events.{JobEvent, own, passed, passed_down, sent, JobLog}
use Rattle.job_text.specs.Sessions.{JobsSession}
use Rattle.passed_calls.specs.Scripts.{further}
use Rattle.job_text.specs.declared.calls.OwnCall.{OwnCall}
use Rattle.job_steps.specs.Steps.{ControlOutcome, any_access, judged_answer, outcome_of}
use Rattle.job_steps.specs.Steps.{sent_by_stop, job_signal, foreground_target}
use Rattle.order_laws.specs.Later.{ComesBy}
use Rattle.job_one.specs.Desk.{signals_of, IsDeskAt}

-- the access that an act needs
abbrev pub needs_of : JobAct → Access → Bool
needs_of Read = may_read
needs_of Write = may_write
needs_of Change = any_access

-- a desk: its port, the process of each caller, job control, the callers' next steps, how many of the port's signals
-- were sent on, and the log so far
pub record DeskState : Type 0 where
  pub number : ℕ
  pub callers : List ℕ
  pub jobs : JobState
  pub next : List ℕ
  pub sent : ℕ
  pub log : JobLog

abbrev pub noted : DeskState → (at : ℕ) → JobEvent → DeskState
noted d at event = record d { log = d.log ++ record { port = d.number; at = at; event = event } ∷ [] }

abbrev pub all_noted : DeskState → (at : ℕ) → List JobEvent → DeskState
all_noted d at [] = d
all_noted d at (e ∷ es) = all_noted (noted d at e) at es

-- each event is of this port
abbrev pub AreOn : ℕ → JobLog → Type 0
AreOn p log = All (λ l. l.port ≡ p) log

-- nothing but signals
abbrev pub AreSignals : List JobEvent → Type 0
AreSignals [] = Unit {0}
AreSignals (own c step answer ∷ es) = ⊥
AreSignals (passed c step answer ∷ es) = ⊥
AreSignals (passed_down c h ∷ es) = ⊥
AreSignals (sent signal target ∷ es) = AreSignals es

-- a caller's call is answered without the port, and its next one comes
abbrev pub after_call : DeskState → ℕ → DeskState
after_call d c = record d { next = slice_set d.next c (slice_index_or d.next c 0 + 1) }

abbrev pub answered_own : DeskState → (at c : ℕ) → JobAnswer → DeskState
answered_own d at c answer = after_call (noted d at (own c (slice_index_or d.next c 0) answer)) c

-- what a call of job control of a caller comes to
abbrev pub own_outcome : DeskState → PortValue → (c : ℕ) → OwnCall → ControlOutcome
own_outcome d v c call = outcome_of d.jobs v.terminal (slice_index_or d.callers c 0) c (further call)

-- it is answered so, and these signals are sent
abbrev pub controlled : DeskState → PortValue → (c : ℕ) → ControlOutcome → (signals : List JobEvent) → DeskState
controlled d v c outcome signals = all_noted
    (record (answered_own d (length v.journal) c outcome.answer) { jobs = outcome.left }) (length v.journal) signals

-- a call from the background is answered as it was judged, and where it is stopped its group is told
abbrev pub stopped : DeskState → (at c : ℕ) → Judged → DeskState
stopped d at c judged =
    all_noted (answered_own d at c (unwrap_or (judged_answer judged) told.Done)) at
    (sent_by_stop d.jobs (slice_index_or d.callers c 0) judged)

-- the port has answered it
abbrev pub answered_by_port : DeskState → (at c : ℕ) → PlainAnswer → DeskState
answered_by_port d at c answer = after_call (noted d at (passed c (slice_index_or d.next c 0) answer)) c

-- nobody holds the port any more, and the leader of the session that held it is told
abbrev pub told_at : DeskState → (at : ℕ) → Option ℕ → DeskState
told_at d at None = d
told_at d at (Some leader) =
    noted (noted d at (sent Hup (towards.Process leader))) at (sent Cont (towards.Process leader))

abbrev pub leader_told : DeskState → (at : ℕ) → DeskState
leader_told d at = told_at (record d { jobs = let_go d.jobs }) at (leader_of d.jobs)

-- a hangup that was done
abbrev pub is_hangup_done : PlainCall → PlainAnswer → Bool
is_hangup_done (hangs_up h) done = true
is_hangup_done call answer = false

-- the port has answered this call
abbrev pub answered : DeskState → (at c : ℕ) → PlainCall → PlainAnswer → DeskState
answered d at c call answer =
    if is_hangup_done call answer
    then leader_told (answered_by_port d at c answer) at
    else answered_by_port d at c answer

-- a signal of the port goes to the foreground
abbrev pub sent_on : PortValue → Signal → DeskState → DeskState
sent_on v signal d =
    record (noted d (length v.journal) (sent (job_signal signal) (foreground_target d.jobs))) { sent = d.sent + 1 }

abbrev pub all_sent_on : PortValue → List Signal → DeskState → DeskState
all_sent_on v [] d = d
all_sent_on v (s ∷ ss) d = all_sent_on v ss (sent_on v s d)

-- .. all that it has raised and that were not sent on
abbrev pub new_sent_on : PortValue → DeskState → DeskState
new_sent_on v d = all_sent_on v (drop d.sent (signals_of v.terminal)) d

-- of the desk nothing but the log is other than before
pub record IsSameDesk (d x : DeskState) : Type 0 where
  pub number : x.number ≡ d.number
  pub callers : x.callers ≡ d.callers
  pub jobs : x.jobs ≡ d.jobs
  pub next : x.next ≡ d.next

-- the port's signals beyond so many were raised by its last entry
pub record HasRaised (v : PortValue) (n : ℕ) : Type 0 where
  pub old : PortValue
  pub entry : PlainEntry
  pub was : IsPort old
  pub by : ComesBy old v (entry ∷ [])
  pub fresh : length (signals_of old.terminal) ≤ n

-- the log leads on to here, at the desk of this port
pub record StandsAt (first : Scene) (session : JobsSession) (v : PortValue) (d : DeskState) : Type 0 where
  pub number : first.port ≡ d.number
  pub desk : IsDeskAt first session d.log v d.jobs d.next d.sent []
