-- The desk beside a port while the line of a phase is played.
use Rattle.std.specs.Prelude.{◌≡◌, ◌≤◌, ℕ, length}
use Rattle.tty_calls.specs.declared.answers.Denied.{Denied}
use Rattle.tty_calls.specs.declared.answers.Denied.TheVariants.{NoMemory, Full}
use Rattle.port_core.specs.Ports.{PortValue}
use Rattle.play_base.specs.Roles.{Scene}
use Rattle.job_text.specs.Sessions.{JobsSession}
use Rattle.job_steps.specs.Derived.{passings_on}
use Rattle.order_laws.specs.Begun.{HadBegun}
use Rattle.job_one.specs.Desk.{signals_of}
use Rattle.job_one.specs.Events.{DeskState, IsSameDesk, StandsAt, new_sent_on}

-- the signals that the port has raised since are sent on
abbrev pub SendsNew : PortValue → DeskState → DeskState → Type 0
SendsNew v d x = x ≡ new_sent_on v d

-- the log leads to here, and each signal of the port was sent on
pub record IsUpToDate (first : Scene) (session : JobsSession) (v : PortValue) (d : DeskState) : Type 0 where
  pub stands : StandsAt first session v d
  pub all_sent : length (signals_of v.terminal) ≤ d.sent

-- nothing but signals was noted meanwhile
pub record SendsAlone (d x : DeskState) : Type 0 where
  pub same : IsSameDesk d x
  pub passes : (session : JobsSession) → passings_on session x.log d.number ≡ passings_on session d.log d.number

-- the port has gone on, no caller has made or begun a call, and the signals that it raised were sent on
pub record SendsAlong (v w : PortValue) (d x : DeskState) : Type 0 where
  pub alone : SendsAlone d x
  pub kept : w.kept ≡ v.kept
  pub begun : (c : ℕ) → HadBegun v w c
  pub each : (first : Scene) (session : JobsSession) → IsUpToDate first session v d → IsUpToDate first session w x

-- .. as far as it went
pub record StopsAlong (v w : PortValue) (d x : DeskState) : Type 0 where
  pub alone : SendsAlone d x
  pub kept : w.kept ≡ v.kept
  pub begun : (c : ℕ) → HadBegun v w c
  pub each : (first : Scene) (session : JobsSession) → IsUpToDate first session v d → StandsAt first session w x

abbrev pub StopsBy : Denied → PortValue → PortValue → DeskState → DeskState → Type 0
StopsBy NoMemory v w d x = Unit {0}
StopsBy Full v w d x = StopsAlong v w d x
