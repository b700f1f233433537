-- The log of a port and its job control, while the port is played.
use Rattle.std.specs.Prelude.{◌≡◌, ℕ, true, List, [], ◌∷◌, Option, unwrap_or, length, slice_get, slice_index_or}
use Rattle.tty_base.specs.declared.counters.Signal.{Signal}
use Rattle.tty_calls.specs.Plain.{PlainCall, hangs_up, PlainAnswer, done}
use Rattle.tty_terminal.specs.Terminals.{Terminal, caller_at, has_begun}
use Rattle.port_core.specs.Ports.{PortValue}
use Rattle.play_base.specs.Roles.{Scene}
use Rattle.job_control.specs.Control.{JobState, let_go, leader_of}
use Rattle.passed_calls.specs.Blocks.{names_on}
use Rattle.job_text.specs.Events.{JobEvent, JobLog}
use Rattle.job_text.specs.Sessions.{JobCall, JobsSession, blocks_in}
use Rattle.job_steps.specs.Derived.{job_call_at}
use Rattle.job_steps.specs.Steps.{JobsState, proc_named, told_leader}
use Rattle.job_one.specs.Later.{HasLogged, HasGoneOn}
use Rattle.job_one.specs.Ordered.{HasOrdered}

-- the process of a caller
abbrev pub proc_in : JobsSession → (p c : ℕ) → ℕ
proc_in session p c =
    unwrap_or (proc_named (slice_index_or session.procs p []) (slice_get (names_on p (blocks_in session)) c))
    (length (slice_index_or session.procs p []))

-- the next call of a caller, by the next steps of all
abbrev pub call_after : JobsSession → (p : ℕ) → (next : List ℕ) → (c : ℕ) → Option JobCall
call_after session p next c = job_call_at p session c (slice_index_or next c 0)

abbrev pub signals_of : Terminal → List Signal
signals_of t = t.tally.signals.items

-- The log led to this state, each event in its turn; and each call that has begun went on to the port.
pub record IsLoggedAt (first : Scene) (session : JobsSession) (log : JobLog) (v : PortValue)
    (u : JobsState) : Type 0 where
  pub logged : HasLogged first.port session log v u
  pub ordered : HasOrdered first session log v
  pub gone_on : (c : ℕ)
      → has_begun (caller_at v.terminal c) ≡ true
      → HasGoneOn first.port session v u c (caller_at v.terminal c).next

-- what is due comes at once: it became due behind this entry
abbrev pub ComeAtOnce : (due : List JobEvent) → (since entries : ℕ) → Type 0
ComeAtOnce [] since entries = Unit {0}
ComeAtOnce (e ∷ due) since entries = entries ≡ since

-- .. with this job control, these next steps, so many signals sent on, and these events due
pub record IsDeskAt (first : Scene) (session : JobsSession) (log : JobLog) (v : PortValue) (jobs : JobState)
    (next : List ℕ) (signals : ℕ) (due : List JobEvent) : Type 0 where
  pub state : JobsState
  pub at : IsLoggedAt first session log v state
  pub jobs_are : state.now.jobs ≡ jobs
  pub next_are : state.next ≡ next
  pub signals_are : state.signals ≡ signals
  pub due_are : state.due ≡ due
  pub at_once : ComeAtOnce due state.now.at (length v.journal)

-- what the port's answer to a call makes of job control, and what is due then
abbrev pub jobs_passed : JobState → PlainCall → PlainAnswer → JobState
jobs_passed jobs (hangs_up h) done = let_go jobs
jobs_passed jobs call answer = jobs

abbrev pub due_passed : JobState → PlainCall → PlainAnswer → List JobEvent
due_passed jobs (hangs_up h) done = told_leader (leader_of jobs)
due_passed jobs call answer = []
