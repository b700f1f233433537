-- A port of a session of processes that was played, whatever session its callers' calls are found to make.
use Rattle.std.specs.Prelude.{◌≡◌, ℕ, List, length}
use Rattle.tty_base.specs.declared.characters.Flagged.{Flagged}
use Rattle.word_ring.specs.Ends.{PutterState}
use Rattle.uart_line.specs.LineState.{LineState}
use Rattle.tty_calls.specs.declared.answers.PortEnd.{PortEnd}
use Rattle.tty_calls.specs.declared.journals.PortRun.{PortRun}
use Rattle.port_core.specs.Ports.{PortValue, IsPort}
use Rattle.play_base.specs.Phases.{IsFullRun}
use Rattle.play_base.specs.Roles.{Scene}
use Rattle.play_base.specs.Scenes.{IsOfScene}
use Rattle.order_laws.specs.Agreed.{Agrees, IsLike}
use Rattle.job_text.specs.Events.{JobEvent, JobLog}
use Rattle.job_text.specs.Sessions.{JobsSession}
use Rattle.job_steps.specs.Derived.{block_phases}
use Rattle.order_laws.specs.Witness.{HasPassed}
use Rattle.passed_ports.specs.Ports.{IsPlayedSo, ArePlayedFirst}
use Rattle.job_one.specs.Desk.{IsDeskAt}
use Rattle.job_one.specs.Events.{DeskState}
use Rattle.job_one.specs.Between.{value_at, IsBeforeJobs}
use Rattle.order_laws.specs.Begun.{begun_at}
use Rattle.job_one.specs.Playing.{passings_with}
use Rattle.job_one.specs.Played.{begun_in, IsJobPlayedOn, by_blocks, all_passed}

-- ---- what was played

-- a port with its own log, its run and its end
abbrev pub IsPortPlayed : (p : ℕ) → JobsSession → JobLog → PortRun → PortEnd → Type 0
IsPortPlayed p session log run end =
    IsPlayedSo (by_blocks session) p (all_passed session log p run.journal.items)
    (begun_in session log p run.journal.items) (λ played. IsJobPlayedOn p session played log run end) run

-- the first ports were, with the log of all of them
abbrev pub AreFirstPlayed : JobsSession → (count : ℕ) → JobLog → List PortRun → List PortEnd → Type 0
AreFirstPlayed session count log runs ends =
    ArePlayedFirst (λ p own run end. IsPortPlayed p session own run end) count log runs ends

-- ---- a port that is played

-- all phases were played
pub record IsJobsEnd (first : Scene) (session : JobsSession) (v : PortValue) (putter : PutterState Flagged)
    (line : LineState) (run : ℕ) (d : DeskState) : Type 0 where
  pub before : IsBeforeJobs first session v putter line run d
  pub phase : v.terminal.phase ≡ length first.session.phases
  pub port : IsPort v

-- the journal is full, in the line of a phase or behind it; and something may still be due at the desk
pub record IsJobsFull (first : Scene) (session : JobsSession) (v : PortValue) (putter : PutterState Flagged)
    (line : LineState) (d : DeskState) : Type 0 where
  pub port : IsPort v
  pub number : first.port ≡ d.number
  pub ring : putter.ring ≡ v.flip.ring
  pub due : List JobEvent
  pub desk : IsDeskAt first session d.log v d.jobs d.next d.sent due
  pub has : HasPassed first (block_phases session) (passings_with session d.log first.port (value_at d) (begun_at v)) v
  pub full : (s : Scene) → IsLike first s → Agrees s v → IsOfScene s v × IsFullRun s v putter line
