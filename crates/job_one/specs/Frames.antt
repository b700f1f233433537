-- A phase of a port of processes, behind its line, as the player's functions speak of it.
use Rattle.std.specs.Prelude.{◌≡◌, ◌≤◌, ◌<◌, ◌+◌, ◌-◌, ◌^◌, ℕ, IsTrue, List, [], ◌∷◌}
use Rattle.std.specs.Prelude.{false, Some, length, slice_get, slice_index_or}
use Rattle.tty_base.specs.Sizes.{MOST_HANDLES}
use Rattle.tty_calls.specs.declared.sessions.Script.{Script}
use Rattle.tty_calls.specs.Plain.{PlainCall, hangs_up}
use Rattle.tty_terminal.specs.Terminals.{handle_at}
use Rattle.port_core.specs.Ports.{PortValue}
use Rattle.handle_table.specs.Handles.{is_live}
use Rattle.legal_runs.specs.Order.{is_of_consoles}
use Rattle.play_base.specs.Roles.{Scene}
use Rattle.one_thread.specs.Turns.{role_numbers, IsTurn}
use Rattle.play_base.specs.declared.roles.Role.{Role}
use Rattle.one_thread.specs.declared.after_line.Stand.{Stand}
use Rattle.one_thread.specs.declared.after_line.Turn.{Turn}
use Rattle.job_control.specs.declared.processes.Judged.TheVariants.{Pass}
use Rattle.passed_calls.specs.Scripts.{plain}
use Rattle.job_text.specs.Events.{JobEvent, passed_down}
use Rattle.job_text.specs.Sessions.{JobCall, JobsSession}
use Rattle.job_steps.specs.Derived.{block_phases}
use Rattle.job_steps.specs.Steps.{is_own, judged_call}
use Rattle.order_laws.specs.Passed.{begin_of}
use Rattle.order_laws.specs.Witness.{IsCalling}
use Rattle.job_one.specs.Desk.{proc_in, call_after, signals_of}
use Rattle.job_one.specs.Events.{DeskState}
use Rattle.job_one.specs.Between.{value_at}
use Rattle.job_one.specs.Latest.{latest_on}
use Rattle.order_laws.specs.Begun.{begun_at, begun_with}
use Rattle.job_one.specs.Playing.{passings_with, hangup_with, IsPlayingJobs}

-- what stays meanwhile: the session and its plain part, the scripts of each scene that may be played, the port behind
-- the line, and the ticks
pub record Frame : Type 0 where
  pub first : Scene
  pub session : JobsSession
  pub scripts : Scene → List Script
  pub start : PortValue
  pub ticks : ℕ

-- the desk is that of this port, where each of its signals was sent on, and these events are due
pub record IsOwing (f : Frame) (roles : List Role) (v : PortValue) (d : DeskState) (stand : Stand)
    (due : List JobEvent) : Type 0 where
  pub number : f.first.port ≡ d.number
  pub playing : IsPlayingJobs f.first f.session f.scripts roles f.start d.log v (record (value_at d) { due = due })
      f.ticks stand
  pub all_sent : length (signals_of v.terminal) ≤ d.sent

-- between two turns: nothing is due
abbrev pub IsAtTurn : Frame → List Role → PortValue → DeskState → Stand → Type 0
IsAtTurn f roles v d stand = IsOwing f roles v d stand []

abbrev pub IsNextTurn : Frame → List Role → PortValue → Stand → Turn → Type 0
IsNextTurn f roles v stand next = IsTurn (is_of_consoles f.first.session) v (role_numbers roles) stand.going next

-- A call of the caller at a place, whose turn it is, for the port: the one that it has begun, or a new one that goes on
-- by the background check; and with it the session that is played has this call next.
pub record IsForPort (f : Frame) (roles : List Role) (v : PortValue) (d : DeskState) (stand : Stand) (place : ℕ)
    (call : PlainCall) : Type 0 where
  pub role : Role
  pub at_place : slice_get roles place ≡ Some role
  pub known : role.number < length d.next
  pub few : slice_index_or d.next role.number 0 < 2 ^ 32 - 1
  pub has : call_after f.session f.first.port d.next role.number ≡ Some (plain call)
  pub from : begin_of f.first.port (block_phases f.session) f.start.terminal.phase role.number
      ≤ slice_index_or d.next role.number 0
  pub to : slice_index_or d.next role.number 0
      < begin_of f.first.port (block_phases f.session) (f.start.terminal.phase + 1) role.number
  pub goes_on : begun_at v role.number ≡ false
      → judged_call d.jobs v.terminal (proc_in f.session f.first.port role.number) call ≡ Pass
  pub calling : IsCalling f.first (block_phases f.session) f.scripts roles f.start
      (passings_with f.session d.log f.first.port (value_at d) (begun_with v role.number)) v f.ticks stand place call

-- a call of the caller at a place, whose turn it is, that is answered without the port
pub record IsOwnCall (f : Frame) (roles : List Role) (v : PortValue) (d : DeskState) (place : ℕ)
    (call : JobCall) : Type 0 where
  pub role : Role
  pub at_place : slice_get roles place ≡ Some role
  pub known : role.number < length d.next
  pub few : slice_index_or d.next role.number 0 < 2 ^ 32 - 1
  pub rests : begun_at v role.number ≡ false
  pub caller : role.number < length d.callers
  pub proc : slice_index_or d.callers role.number 0 ≡ proc_in f.session f.first.port role.number
  pub has : call_after f.session f.first.port d.next role.number ≡ Some call
  pub from : begin_of f.first.port (block_phases f.session) f.start.terminal.phase role.number
      ≤ slice_index_or d.next role.number 0
  pub to : slice_index_or d.next role.number 0
      < begin_of f.first.port (block_phases f.session) (f.start.terminal.phase + 1) role.number
  pub its : IsTrue (is_own d.jobs v.terminal (proc_in f.session f.first.port role.number) call)

-- the hangup of the process of the caller at a place, which has ended in its turn
pub record IsHangingUp (f : Frame) (roles : List Role) (v : PortValue) (d : DeskState) (stand : Stand)
    (place handle : ℕ) : Type 0 where
  pub role : Role
  pub at_place : slice_get roles place ≡ Some role
  pub owing : IsOwing f roles v d stand (passed_down role.number handle ∷ [])
  pub rests : begun_at v role.number ≡ false
  pub live : IsTrue (is_live (handle_at v.terminal handle))
  pub few : handle < MOST_HANDLES
  pub latest : latest_on d.log f.first.port < slice_index_or d.next role.number 0
  pub calling : IsCalling f.first (block_phases f.session) f.scripts roles f.start
      (hangup_with f.session d.log f.first.port (value_at d) v role.number handle) v f.ticks stand place
      (hangs_up handle)
