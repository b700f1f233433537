-- What a player of a session of processes keeps between two turns of a port.
use Rattle.std.specs.Prelude.{◌<◌, ◌==◌, ℕ, Bool, List, [], ◌∷◌, ◌++◌, All, if◌then◌else◌, slice_index_or}
use Rattle.tty_calls.specs.declared.sessions.Script.{Script}
use Rattle.tty_calls.specs.Plain.{hangs_up}
use Rattle.passed_calls.specs.Derived.{Passing, by_caller}
use Rattle.port_core.specs.Ports.{PortValue}
use Rattle.play_base.specs.Roles.{Scene}
use Rattle.play_base.specs.declared.roles.Role.{Role}
use Rattle.one_thread.specs.declared.after_line.Stand.{Stand}
use Rattle.job_control.specs.Control.{JobState}
use Rattle.job_text.specs.Events.{JobEvent, JobLog}
use Rattle.job_text.specs.Sessions.{JobsSession}
use Rattle.job_steps.specs.Derived.{block_phases, plain_call, passings_on}
use Rattle.order_laws.specs.Begun.{begun_at}
use Rattle.job_one.specs.Latest.{latest_on}
use Rattle.job_one.specs.Desk.{call_after, IsDeskAt}
use Rattle.order_laws.specs.Witness.{IsPlaying}

-- job control at a desk, the next step of each caller, how many signals were sent on, and what is due
pub record DeskValue : Type 0 where
  pub jobs : JobState
  pub next : List ℕ
  pub signals : ℕ
  pub due : List JobEvent

abbrev pub step_at : DeskValue → ℕ → ℕ
step_at d c = slice_index_or d.next c 0

-- a caller's next call, as it is passed down
abbrev pub next_passing : JobsSession → (p : ℕ) → DeskValue → (c : ℕ) → Passing
next_passing session p d c =
    record { caller = c; step = step_at d c; calls = plain_call (call_after session p d.next c) }

-- what each caller has passed down: what was logged, and behind it the call that it has begun
abbrev pub passings_with : JobsSession → JobLog → (p : ℕ) → DeskValue → (begun : ℕ → Bool) → ℕ → List Passing
passings_with session log p d begun c =
    by_caller c (passings_on session log p) ++ (if begun c then next_passing session p d c ∷ [] else [])

-- the hangup of a process that has ended is passed down, at the latest step that was answered without the port
abbrev pub hangup_of : JobLog → (p c h : ℕ) → Passing
hangup_of log p c h = record { caller = c; step = latest_on log p; calls = hangs_up h ∷ [] }

abbrev pub hangup_with : JobsSession → JobLog → (p : ℕ) → DeskValue → PortValue → (c h : ℕ) → ℕ → List Passing
hangup_with session log p d v c h x =
    passings_with session log p d (begun_at v) x ++ (if x == c then hangup_of log p c h ∷ [] else [])

-- what was logged of a caller is of steps before this one
abbrev pub AreLoggedBefore : JobsSession → JobLog → (p c step : ℕ) → Type 0
AreLoggedBefore session log p c step = All (λ m. m.step < step) (by_caller c (passings_on session log p))

-- Some session is played, and each that agrees with the port; the desk stands where the log leads; and no caller has
-- passed anything down for a later step than its next.
pub record IsPlayingJobs (first : Scene) (session : JobsSession) (scripts : Scene → List Script) (roles : List Role)
    (start : PortValue) (log : JobLog) (v : PortValue) (d : DeskValue) (ticks : ℕ) (stand : Stand) : Type 0 where
  pub playing : IsPlaying first (block_phases session) scripts roles start
      (passings_with session log first.port d (begun_at v)) v ticks stand
  pub desk : IsDeskAt first session log v d.jobs d.next d.signals d.due
  pub logged_before : (c : ℕ) → AreLoggedBefore session log first.port c (step_at d c)
