-- What a turn of a phase of processes leaves.
use Rattle.std.specs.Prelude.{◌≡◌, ◌≤◌, ◌<◌, ◌+◌, ◌-◌, ◌^◌, ℕ, Bool, true, false, not, is_none, IsTrue, List}
use Rattle.std.specs.Prelude.{[], Some, if◌then◌else◌, length, slice_get, slice_index_or, slice_set}
use Rattle.tty_terminal.specs.Terminals.{caller_at}
use Rattle.port_core.specs.Ports.{PortValue}
use Rattle.play_base.specs.declared.roles.Role.{Role}
use Rattle.one_thread.specs.declared.after_line.Stand.{Stand}
use Rattle.job_control.specs.declared.processes.Judged.{Judged}
use Rattle.job_control.specs.declared.processes.Judged.TheVariants.{Pass}
use Rattle.job_text.specs.Sessions.{JobCall}
use Rattle.job_steps.specs.Derived.{block_phases}
use Rattle.job_steps.specs.Steps.{judged_answer}
use Rattle.order_laws.specs.Passed.{begin_of}
use Rattle.order_laws.specs.Begun.{WereOver}
use Rattle.order_laws.specs.Left.{HasGone}
use Rattle.job_one.specs.Desk.{proc_in, call_after}
use Rattle.job_one.specs.Events.{DeskState}
use Rattle.job_one.specs.Frames.{Frame, IsAtTurn}
use Rattle.calls_left.specs.Remaining.{left_at}
use Rattle.job_one.specs.Remaining.{AreLeft}
use Rattle.job_one.specs.AfterLine.{IsFrameWithin, HasProcs}
use Rattle.job_one.specs.declared.turns.Taken.{Taken}

-- where the call of a caller was answered its next step rises, and nothing else of the desk's callers changes
pub record Advances (answered : Bool) (c : ℕ) (d x : DeskState) : Type 0 where
  pub callers : x.callers ≡ d.callers
  pub procs : x.jobs.procs ≡ d.jobs.procs
  pub next : x.next ≡ (if answered then slice_set d.next c (slice_index_or d.next c 0 + 1) else d.next)

-- what a turn of the caller at a place comes to
pub record TakesCall (f : Frame) (roles : List Role) (place : ℕ) (old new : PortValue) (d x : DeskState)
    (taken : Taken) : Type 0 where
  pub at : IsAtTurn f roles new x taken.stand
  pub desk : (r : Role) → slice_get roles place ≡ Some r → Advances taken.answered r.number d x
  pub over : (c : ℕ) → WereOver old new c
  pub gone : HasGone taken.answered old new

-- what a turn of nobody's call comes to
pub record TakesNoCall (f : Frame) (roles : List Role) (old new : PortValue) (d x : DeskState)
    (now : Stand) : Type 0 where
  pub at : IsAtTurn f roles new x now
  pub desk : Advances false 0 d x
  pub over : (c : ℕ) → WereOver old new c
  pub gone : HasGone false old new

-- a call that its caller has begun goes to the port, or else one that the background check lets go on
abbrev pub GoesToPort : (goes begun : Bool) → Judged → Type 0
GoesToPort true begun judged = begun ≡ false → judged ≡ Pass
GoesToPort false begun judged = (begun ≡ false) × IsTrue (not (is_none (judged_answer judged)))

-- the next call of the caller at a place, in its phase
pub record IsNextOf (f : Frame) (roles : List Role) (d : DeskState) (place : ℕ) (call : JobCall) : Type 0 where
  pub role : Role
  pub at_place : slice_get roles place ≡ Some role
  pub known : role.number < length d.next
  pub few : slice_index_or d.next role.number 0 < 2 ^ 32 - 1
  pub caller : role.number < length d.callers
  pub proc : slice_index_or d.callers role.number 0 ≡ proc_in f.session f.first.port role.number
  pub exists : slice_index_or d.callers role.number 0 < length d.jobs.procs
  pub has : call_after f.session f.first.port d.next role.number ≡ Some call
  pub from : begin_of f.first.port (block_phases f.session) f.start.terminal.phase role.number
      ≤ slice_index_or d.next role.number 0
  pub to : slice_index_or d.next role.number 0
      < begin_of f.first.port (block_phases f.session) (f.start.terminal.phase + 1) role.number

-- between two turns of the phase: whose calls are over has none left
pub record IsBetweenTurns (f : Frame) (roles : List Role) (v : PortValue) (d : DeskState) (stand : Stand)
    (left : List (List JobCall)) : Type 0 where
  pub at : IsAtTurn f roles v d stand
  pub frame : IsFrameWithin f
  pub procs : HasProcs f.first.port f.session d
  pub calls : AreLeft f.first.port f.start.terminal.phase f.session roles d.next left
  pub over : (i : ℕ) (r : Role)
      → slice_get roles i ≡ Some r
      → (caller_at v.terminal r.number).over ≡ true
      → left_at left i ≡ []
