-- What a session of processes asks at most: the limits that every one keeps that a text spells.
use Rattle.std.specs.Prelude.{ℕ, ◌≤◌, [], All, IsSome, length, map, slice_index_or}
use Rattle.tty_base.specs.Sizes.{MOST_PROCESSES}
use Rattle.passed_calls.specs.Blocks.{Block}
use Rattle.passed_calls.specs.Within.{AreBlocksWithin, AreCallsWithin}
use Rattle.job_text.specs.Sessions.{JobsSession, block_phase_of, blocks_in, proc_place}

-- a caller is a process of its port
abbrev pub IsProc : JobsSession → Block → Type 0
IsProc session b = IsSome (proc_place (slice_index_or session.procs b.port []) b.name)

-- its blocks keep the limits, and so do the calls that are for the ports; a port has at most 1,024 processes
pub record IsJobsSessionWithin (session : JobsSession) : Type 0 where
  pub blocks : AreBlocksWithin session.ports session.flips (map block_phase_of session.phases)
  pub calls : All (λ phase. AreCallsWithin phase.callers) session.phases
  pub procs : (p : ℕ) → length (slice_index_or session.procs p []) ≤ MOST_PROCESSES
  pub callers : All (IsProc session) (blocks_in session)
