-- A port with modem lines that was played, whatever session its callers' calls are found to make.
use Rattle.std.specs.Prelude.{◌≡◌, ◌≢◌, ◌<◌, ℕ, List, [], length}
use Rattle.tty_base.specs.declared.characters.Flagged.{Flagged}
use Rattle.word_ring.specs.Ends.{PutterState}
use Rattle.uart_line.specs.LineState.{LineState}
use Rattle.tty_calls.specs.declared.answers.PortEnd.{PortEnd}
use Rattle.tty_calls.specs.declared.journals.PortRun.{PortRun}
use Rattle.tty_calls.specs.Sessions.{PlainSession}
use Rattle.port_core.specs.Ports.{PortValue, IsPort}
use Rattle.play_base.specs.Phases.{IsFullRun}
use Rattle.play_base.specs.Roles.{Scene}
use Rattle.play_base.specs.Scenes.{HasAnyOrder, IsOfSceneIn}
use Rattle.order_laws.specs.Agreed.{Agrees, IsLike, IsBeforeEachIn}
use Rattle.passed_calls.specs.Blocks.{names_on}
use Rattle.passed_calls.specs.Derived.{Passing, by_caller}
use Rattle.order_laws.specs.Passed.{IsPassedBy, AreBefore, begin_of}
use Rattle.order_laws.specs.Witness.{scene_on, HasPassed}
use Rattle.passed_ports.specs.Ports.{IsPlayedSo, ArePlayedFirst}
use Rattle.modem_text.specs.Events.{ModemLog}
use Rattle.modem_text.specs.Sessions.{ModemSession, blocks_in}
use Rattle.modem_text.specs.Within.{IsModemSessionWithin}
use Rattle.modem_steps.specs.Derived.{block_phases, carrier_on, passings_on}
use Rattle.modem_one.specs.Desk.{DeskState, step_of}
use Rattle.modem_one.specs.Later.{IsDeskAt}
use Rattle.modem_one.specs.Playing.{step_next, AreLoggedBefore}
use Rattle.modem_one.specs.Played.{begun_in, port_in, IsLogged, IsModemPlayedOn, by_blocks, all_passed}

-- ---- what was played

-- a port with its own log, its run and its end
abbrev pub IsPortPlayed : (p : ℕ) → ModemSession → ModemLog → PortRun → PortEnd → Type 0
IsPortPlayed p session log run end =
    IsPlayedSo (by_blocks session) p (all_passed session log p run.journal.items)
    (begun_in session log p run.journal.items) (λ played. IsModemPlayedOn p session played log run end) run

-- the first ports were, with the log of all of them
abbrev pub AreFirstPlayed : ModemSession → (count : ℕ) → ModemLog → List PortRun → List PortEnd → Type 0
AreFirstPlayed session count log runs ends =
    ArePlayedFirst (λ p own run end. IsPortPlayed p session own run end) count log runs ends

-- ---- a port that is played

-- what each caller has passed down
abbrev pub passed_by : ModemSession → (p : ℕ) → DeskState → ℕ → List Passing
passed_by session p d c = by_caller c (passings_on session d.log p)

-- Port, putter, line and desk at the beginning of a phase: each caller is at its first step there, and the items of the
-- modem blocks before are done.
pub record IsBeforeModems (first : Scene) (session : ModemSession) (v : PortValue) (putter : PutterState Flagged)
    (line : LineState) (run : ℕ) (d : DeskState) : Type 0 where
  pub each : IsBeforeEachIn HasAnyOrder first v putter line run
  pub has : HasPassed first (block_phases session) (passed_by session first.port d) v
  pub before : AreBefore first.port (block_phases session) v.terminal.phase (passed_by session first.port d)
  pub desk : IsDeskAt first session v d []
  pub logged_before : (c : ℕ) → AreLoggedBefore session d.log first.port c (step_next session first.port d [] c)
  pub next_of_all : length d.next ≡ length (names_on first.port (blocks_in session))
  pub steps : (c : ℕ)
      → c ≢ carrier_on first.port session
      → step_of d c ≡ begin_of first.port (block_phases session) v.terminal.phase c
  pub items : d.items ≡ begin_of first.port (block_phases session) v.terminal.phase (carrier_on first.port session)

-- all phases were played
pub record IsModemsEnd (first : Scene) (session : ModemSession) (v : PortValue) (putter : PutterState Flagged)
    (line : LineState) (run : ℕ) (d : DeskState) : Type 0 where
  pub before : IsBeforeModems first session v putter line run d
  pub phase : v.terminal.phase ≡ length first.session.phases
  pub port : IsPort v
  pub limits : IsModemSessionWithin session
  pub on_port : first.port < session.ports

-- The journal is full, in the line of a phase or behind it: each session in which this was passed was played as far
-- as it went, and its log with it.
pub record IsModemsFull (first : Scene) (session : ModemSession) (v : PortValue) (putter : PutterState Flagged)
    (line : LineState) (d : DeskState) : Type 0 where
  pub port : IsPort v
  pub number : first.port ≡ d.number
  pub ring : putter.ring ≡ v.flip.ring
  pub mine : ℕ → List Passing
  pub passed : (c : ℕ) → by_caller c (all_passed session d.log first.port v.journal) ≡ mine c
  pub has : HasPassed first (block_phases session) mine v
  pub full : (played : PlainSession)
      → IsLike first (scene_on first.port played)
      → IsPassedBy first.port (block_phases session) mine played
      → Agrees (scene_on first.port played) v
      → IsOfSceneIn HasAnyOrder (scene_on first.port played) v × IsFullRun (scene_on first.port played) v putter line
  pub logged : (played : PlainSession)
      → IsLike first (scene_on first.port played)
      → IsPassedBy first.port (block_phases session) mine played
      → Agrees (scene_on first.port played) v
      → IsLogged played (port_in session played first.port v.journal) d.log
