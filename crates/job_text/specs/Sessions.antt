-- Sessions whose callers are processes.
use Rattle.std.specs.Prelude.{ℕ, ◌==◌, Option, List, [], map, filter, flat_map, position}
use Rattle.std.specs.Str.{bytes_eq}
use Rattle.std.specs.List.{range_with_len}
use Rattle.tty_base.specs.declared.lines.LineStep.{LineStep}
use Rattle.tty_calls.specs.Sessions.{PlainPhase, PlainSession, session_of}
use Rattle.job_control.specs.declared.processes.Proc.{Proc}
use Rattle.passed_calls.specs.declared.placed.PlacedCall.{PlacedCall}
use Rattle.passed_calls.specs.Blocks.{Block}
use Rattle.passed_calls.specs.Derived.{BlockPhase}
use Rattle.passed_calls.specs.Scripts.{AnyCall, CallerScript, block_of, mixed_scripts, phases_with}
use Rattle.job_text.specs.declared.calls.OwnCall.{OwnCall}
use Rattle.job_text.specs.declared.sessions.PortProc.{PortProc}
use Rattle.job_text.specs.declared.sessions.JobsPart.{JobsPart}
use Rattle.job_text.specs.declared.sessions.JobsSession.{JobsSession as KeptSession}

-- a call that is for the port, or one of job control
abbrev pub JobCall : Type 0
JobCall = AnyCall OwnCall

-- a phase; `lines` and `ticks` have one item for each port
pub record JobsPhase : Type 0 where
  pub lines : List (List LineStep)
  pub ticks : List ℕ
  pub callers : List (CallerScript JobCall)

-- `procs` has the processes of each port
pub record JobsSession : Type 0 where
  pub version : ℕ
  pub ports : ℕ
  pub flips : List ℕ
  pub procs : List (List Proc)
  pub phases : List JobsPhase

-- the blocks of a session, which tell the callers' numbers
abbrev pub blocks_in : JobsSession → List Block
blocks_in session = flat_map (λ phase. map block_of phase.callers) session.phases

-- a phase by its blocks
abbrev pub block_phase_of : JobsPhase → BlockPhase
block_phase_of phase = record { lines = phase.lines; ticks = phase.ticks; blocks = map block_of phase.callers }

-- the place of a process among those of its port
abbrev pub proc_place : List Proc → (name : List ℕ) → Option ℕ
proc_place procs name = position (λ proc. bytes_eq proc.name.bytes name) procs

-- ---- a session of ports, its processes, and what its phases have beside

abbrev pub phase_with : PlainPhase → List (PlacedCall OwnCall) → JobsPhase
phase_with phase own = record { lines = phase.lines; ticks = phase.ticks; callers = mixed_scripts 0 phase.callers own }

-- the processes of each port
abbrev pub procs_on : ℕ → List PortProc → List Proc
procs_on p procs = map (λ q. q.proc) (filter (λ q. q.port == p) procs)

abbrev pub session_with : PlainSession → List PortProc → List (List (PlacedCall OwnCall)) → JobsSession
session_with session procs parts = record {
  version = session.version;
  ports = session.ports;
  flips = session.flips;
  procs = map (λ p. procs_on p procs) (range_with_len 0 session.ports);
  phases = phases_with phase_with [] parts 0 session.phases;
}

abbrev pub own_of : JobsPart → List (PlacedCall OwnCall)
own_of part = part.own.items

-- what a session that is kept is
abbrev pub jobs_session_of : KeptSession → JobsSession
jobs_session_of s = session_with (session_of s.session) s.procs.items (map own_of s.parts.items)

-- .. where nothing is said of the room behind a name
abbrev pub bare : PortProc → PortProc
bare q = record q { proc = record q.proc { name = record { bytes = q.proc.name.bytes; spare = [] } } }

abbrev pub bare_session_of : KeptSession → JobsSession
bare_session_of s = session_with (session_of s.session) (map bare s.procs.items) (map own_of s.parts.items)
