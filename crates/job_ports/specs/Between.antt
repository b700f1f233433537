-- A port of a session of processes between two phases, and what a phase is played of.
use Rattle.std.specs.Prelude.{◌≡◌, ◌<◌, ℕ, Bool, IsTrue, List, [], All, length, map, replicate}
use Rattle.tty_base.specs.Lines.{is_step}
use Rattle.tty_base.specs.declared.lines.LineStep.{LineStep}
use Rattle.tty_calls.specs.declared.answers.Denied.{Denied}
use Rattle.tty_calls.specs.declared.answers.Denied.TheVariants.{NoMemory, Full}
use Rattle.tty_calls.specs.declared.sessions.Script.{Script}
use Rattle.tty_calls.specs.Sessions.{script_of, scripts_on, line_on, ticks_on}
use Rattle.legal_runs.specs.Legal.{phase_at}
use Rattle.port_core.specs.Ports.{PortValue, IsPort}
use Rattle.legal_runs.specs.Order.{is_of_consoles}
use Rattle.play_base.specs.Roles.{Scene, scene_of, names_in, role_in}
use Rattle.play_base.specs.Casting.{HaveSameCallers, own_scripts, scripts_at, cast_of}
use Rattle.play_base.specs.declared.roles.Role.{Role}
use Rattle.job_control.specs.declared.processes.Proc.{Proc}
use Rattle.job_control.specs.Control.{first_jobs}
use Rattle.job_text.specs.Sessions.{JobCall, JobsSession, jobs_session_of}
use Rattle.job_text.specs.declared.sessions.JobsSession.{JobsSession as KeptSession}
use Rattle.job_text.specs.Within.{IsJobsSessionWithin}
use Rattle.job_one.specs.AfterLine.{HasProcs}
use Rattle.job_one.specs.Between.{IsBeforeJobs}
use Rattle.job_one.specs.Events.{DeskState}
use Rattle.order_laws.specs.Filled.{AreNextSteps}
use Rattle.job_one.specs.Remaining.{AreLeft}
use Rattle.job_one.specs.Played.{by_blocks}
use Rattle.job_ports.specs.declared.phases.JobStation.{JobStation}
use Rattle.passed_ports.specs.Ports.{IsSceneOf}
use Rattle.job_ports.specs.Ports.{IsJobsFull}

-- at the beginning of phase k, with room for the next step of each caller
pub record IsBetween (first : Scene) (session : JobsSession) (k run : ℕ) (at : JobStation) : Type 0 where
  pub before : IsBeforeJobs first session at.station.port at.station.putter at.station.line run at.desk
  pub phase : at.station.port.terminal.phase ≡ k
  pub port : IsPort at.station.port
  pub names : at.names ≡ names_in first
  pub steps : length at.station.steps.items ≡ length at.names
  pub procs : HasProcs first.port session at.desk

-- memory was wanting, or the journal is full
abbrev pub IsStoppedBy : Denied → Scene → JobsSession → JobStation → Type 0
IsStoppedBy NoMemory first session at = Unit {0}
IsStoppedBy Full first session at = IsJobsFull first session at.station.port at.station.putter at.station.line at.desk

-- ---- a phase

-- a session, with the scripts of the phase on all ports
pub record Setting : Type 0 where
  pub first : Scene
  pub session : JobsSession
  pub callers : List Script

-- phase k of a port of a session that is kept
abbrev pub setting_of : ℕ → KeptSession → ℕ → Setting
setting_of p kept k =
    record { first = scene_of p kept.session; session = jobs_session_of kept; callers = scripts_at kept.session k }

-- the roles of the phase's callers
pub record AreCastIn (s : Setting) (v : PortValue) (roles : List Role) : Type 0 where
  pub steps : List ℕ
  pub next : AreNextSteps v.terminal (length (names_in s.first)) steps
  pub cast : (others : List Script)
      → HaveSameCallers others s.callers
      → map (role_in others) roles ≡ cast_of (names_in s.first) steps s.first.port (map script_of others)

pub record BeginsPhase (s : Setting) (roles : List Role) (at : JobStation) (k run : ℕ) (left : List (List JobCall))
    (steps : List LineStep) (ticks : ℕ) (clock_first : Bool) : Type 0 where
  pub within : IsJobsSessionWithin s.session
  pub scene : IsSceneOf s.first (by_blocks s.session)
  pub phase : k < length s.first.session.phases
  pub own : own_scripts s.first.port (map script_of s.callers) ≡ scripts_on s.first.port (phase_at s.first.session k)
  pub between : IsBetween s.first s.session k run at
  pub roles_are : AreCastIn s at.station.port roles
  pub calls : AreLeft s.first.port k s.session roles at.desk.next left
  pub steps_are : steps ≡ line_on s.first.port (phase_at s.first.session k)
  pub good : All (λ step. IsTrue (is_step step)) steps
  pub ticks_are : ticks ≡ ticks_on s.first.port (phase_at s.first.session k)
  pub clock : clock_first ≡ is_of_consoles s.first.session

-- ---- the desk

-- the desk of a port that was not played, whose callers are these of its processes
pub record IsDeskOpened (p : ℕ) (procs : List Proc) (callers : List ℕ) (d : DeskState) : Type 0 where
  pub number : d.number ≡ p
  pub callers_are : d.callers ≡ callers
  pub jobs : d.jobs ≡ first_jobs procs
  pub next : d.next ≡ replicate (length callers) 0
  pub sent : d.sent ≡ 0
  pub log : d.log ≡ []
