-- What a player of a session of processes keeps between two phases of a port.
use Rattle.std.specs.Prelude.{◌≡◌, ℕ, List, [], slice_index_or}
use Rattle.tty_base.specs.declared.characters.Flagged.{Flagged}
use Rattle.word_ring.specs.Ends.{PutterState}
use Rattle.uart_line.specs.LineState.{LineState}
use Rattle.passed_calls.specs.Derived.{Passing, by_caller}
use Rattle.port_core.specs.Ports.{PortValue}
use Rattle.play_base.specs.Roles.{Scene}
use Rattle.order_laws.specs.Agreed.{IsBeforeEach}
use Rattle.job_text.specs.Sessions.{JobsSession}
use Rattle.job_steps.specs.Derived.{block_phases, passings_on}
use Rattle.order_laws.specs.Passed.{begin_of, AreBefore}
use Rattle.order_laws.specs.Witness.{HasPassed}
use Rattle.job_one.specs.Events.{DeskState}
use Rattle.job_one.specs.Along.{IsUpToDate}
use Rattle.job_one.specs.Playing.{DeskValue, AreLoggedBefore}

-- a desk at which nothing is due
abbrev pub value_at : DeskState → DeskValue
value_at d = record { jobs = d.jobs; next = d.next; signals = d.sent; due = [] }

-- what each caller of a port has passed down
abbrev pub passed_by : JobsSession → (p : ℕ) → DeskState → ℕ → List Passing
passed_by session p d c = by_caller c (passings_on session d.log p)

-- port, putter, line and desk at the beginning of a phase: each caller is at its first step there
pub record IsBeforeJobs (first : Scene) (session : JobsSession) (v : PortValue) (putter : PutterState Flagged)
    (line : LineState) (run : ℕ) (d : DeskState) : Type 0 where
  pub each : IsBeforeEach first v putter line run
  pub has : HasPassed first (block_phases session) (passed_by session first.port d) v
  pub before : AreBefore first.port (block_phases session) v.terminal.phase (passed_by session first.port d)
  pub date : IsUpToDate first session v d
  pub logged_before : (c : ℕ) → AreLoggedBefore session d.log first.port c (slice_index_or d.next c 0)
  pub steps : (c : ℕ) → slice_index_or d.next c 0 ≡ begin_of first.port (block_phases session) v.terminal.phase c
