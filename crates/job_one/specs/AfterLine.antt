-- What comes after the line of a phase of processes: what it needs, and what it comes to.
use Rattle.std.specs.Prelude.{◌≡◌, ◌<◌, ◌+◌, ℕ, false, List, length, slice_index_or}
use Rattle.tty_base.specs.declared.characters.Flagged.{Flagged}
use Rattle.word_ring.specs.Ends.{PutterState}
use Rattle.tty_calls.specs.declared.answers.Denied.{Denied}
use Rattle.tty_calls.specs.declared.answers.Denied.TheVariants.{NoMemory, Full}
use Rattle.tty_terminal.specs.Terminals.{caller_at}
use Rattle.port_core.specs.Ports.{PortValue, IsPort}
use Rattle.one_thread.specs.Acts.{AddsEntry, PlaysEnd}
use Rattle.play_base.specs.declared.roles.Role.{Role}
use Rattle.one_thread.specs.declared.after_line.Stand.{Stand}
use Rattle.one_thread.specs.declared.after_line.Turn.TheVariants as turn
use Rattle.passed_calls.specs.Blocks.{names_on}
use Rattle.passed_calls.specs.Within.{AreBlocksWithin}
use Rattle.job_text.specs.Events.{JobEvent}
use Rattle.job_text.specs.Sessions.{JobCall, JobsSession, blocks_in}
use Rattle.job_text.specs.Within.{IsJobsSessionWithin}
use Rattle.job_steps.specs.Derived.{block_phases}
use Rattle.order_laws.specs.Passed.{begin_of, IsOfBlocks}
use Rattle.job_one.specs.Desk.{proc_in}
use Rattle.job_one.specs.Events.{DeskState}
use Rattle.job_one.specs.Between.{value_at}
use Rattle.job_one.specs.Playing.{IsPlayingJobs}
use Rattle.job_one.specs.Frames.{Frame, IsAtTurn, IsNextTurn}
use Rattle.job_one.specs.Remaining.{AreLeft}

-- the session keeps the limits, and what is played is of its blocks
pub record IsFrameWithin (f : Frame) : Type 0 where
  pub within : IsJobsSessionWithin f.session
  pub of_blocks : IsOfBlocks f.first.port (block_phases f.session) f.first.session
  pub blocks : AreBlocksWithin f.first.session.ports f.first.session.flips (block_phases f.session)

-- a desk at which the callers of a port are its processes
pub record HasProcs (p : ℕ) (session : JobsSession) (d : DeskState) : Type 0 where
  pub callers : length d.callers ≡ length (names_on p (blocks_in session))
  pub next : length d.next ≡ length (names_on p (blocks_in session))
  pub each : (c : ℕ) → c < length d.callers → slice_index_or d.callers c 0 ≡ proc_in session p c
  pub known : (c : ℕ) → c < length d.callers → slice_index_or d.callers c 0 < length d.jobs.procs

-- behind the line
pub record BeginsTurns (f : Frame) (roles : List Role) (v : PortValue) (d : DeskState) (stand : Stand)
    (left : List (List JobCall)) : Type 0 where
  pub at : IsAtTurn f roles v d stand
  pub frame : IsFrameWithin f
  pub procs : HasProcs f.first.port f.session d
  pub none_over : (c : ℕ) → (caller_at v.terminal c).over ≡ false
  pub calls : AreLeft f.first.port f.start.terminal.phase f.session roles d.next left

-- up to the end of the phase: the last entry ends it, and each caller is at its first step of the next phase
pub record EndsTurns (f : Frame) (roles : List Role) (new : PortValue) (putter now : PutterState Flagged)
    (d : DeskState) (run : ℕ) : Type 0 where
  pub last : PortValue
  pub stand : Stand
  pub at : IsAtTurn f roles last d stand
  pub is_end : IsNextTurn f roles last stand turn.End
  pub ends : PlaysEnd roles last new putter now stand run
  pub adds : AddsEntry last new
  pub was_port : IsPort last
  pub is_port : IsPort new
  pub procs : HasProcs f.first.port f.session d
  pub steps : (c : ℕ)
      → slice_index_or d.next c 0 ≡ begin_of f.first.port (block_phases f.session) (f.start.terminal.phase + 1) c

-- as far as it went, where the journal is full; then the hangup of a process that has ended may still be due
pub record FillsTurns (f : Frame) (roles : List Role) (v : PortValue) (d : DeskState) : Type 0 where
  pub number : f.first.port ≡ d.number
  pub stand : Stand
  pub due : List JobEvent
  pub playing : IsPlayingJobs f.first f.session f.scripts roles f.start d.log v (record (value_at d) { due = due })
      f.ticks stand
  pub full : length v.journal ≡ v.limit

abbrev pub StopsTurns : Denied → Frame → List Role → PortValue → DeskState → Type 0
StopsTurns NoMemory f roles v d = Unit {0}
StopsTurns Full f roles v d = FillsTurns f roles v d
