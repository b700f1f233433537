-- A session that agrees with what happened on a port: where calls are only known as they are made, the port plays each
-- such session.
use Rattle.std.specs.Prelude.{◌≡◌, ℕ, List, map}
use Rattle.word_ring.specs.Ends.{PutterState}
use Rattle.tty_base.specs.declared.characters.Flagged.{Flagged}
use Rattle.uart_line.specs.LineState.{LineState}
use Rattle.tty_calls.specs.declared.sessions.Script.{Script}
use Rattle.tty_calls.specs.Plain.{PlainEntry}
use Rattle.tty_calls.specs.Limits.{IsWithinLimits}
use Rattle.tty_calls.specs.Sessions.{ticks_on, call_at}
use Rattle.tty_terminal.specs.Runs.{KnowsMore}
use Rattle.legal_runs.specs.Legal.{AreInPhases, phase_at}
use Rattle.port_core.specs.Ports.{PortValue, call_in}
use Rattle.play_base.specs.Roles.{Scene, role_in, AreRolesOf}
use Rattle.play_base.specs.Scenes.{HasOneOrder}
use Rattle.one_thread.specs.Stages.{EndsAfterLineIn}
use Rattle.play_base.specs.Beginning.{IsAtPhaseIn}
use Rattle.play_base.specs.Phases.{HavePlayedInOrder}
use Rattle.one_thread.specs.Acts.{PlayingIn}
use Rattle.play_base.specs.declared.roles.Role.{Role}
use Rattle.one_thread.specs.declared.after_line.Stand.{Stand}
use Rattle.order_laws.specs.Growth.{HasShape}

-- the port was asked calls of the session alone, each in its phase, and who ended had no call left there
pub record Agrees (s : Scene) (v : PortValue) : Type 0 where
  pub known : KnowsMore (call_in v.kept) (call_at s.port s.session)
  pub in_phases : AreInPhases s.port s.session 0 v.journal

-- a scene like another one: the same port, and its session is the same on it, but for the calls of its callers, and
-- keeps the limits
pub record IsLike (first s : Scene) : Type 0 where
  pub port : s.port ≡ first.port
  pub shape : HasShape first.port first.session s.session
  pub ticks : map (ticks_on first.port) s.session.phases ≡ map (ticks_on first.port) first.session.phases
  pub limits : IsWithinLimits s.session

-- Each scene like this one that agrees with the port was played up to the phase that begins.
pub record IsBeforeEachIn (HasOrder : Scene → List PlainEntry → Type 0) (first : Scene) (v : PortValue)
    (putter : PutterState Flagged) (line : LineState) (run : ℕ) : Type 0 where
  pub each : (s : Scene)
      → IsLike first s
      → Agrees s v
      → IsAtPhaseIn HasOrder s v.terminal.phase v putter line run
      × HavePlayedInOrder s v.terminal.phase v.journal line.report.overruns.items

abbrev pub IsBeforeEach : (first : Scene) → PortValue → PutterState Flagged → LineState → (run : ℕ) → Type 0
IsBeforeEach first v putter line run = IsBeforeEachIn HasOneOrder first v putter line run

-- its callers of a phase, whichever of these scenes it is
pub record AreRolesOfEach (first : Scene) (scripts : Scene → List Script) (roles : List Role) (k : ℕ)
    (v : PortValue) : Type 0 where
  pub each : (s : Scene) → IsLike first s → Agrees s v → AreRolesOf s k (map (role_in (scripts s)) roles)

-- Since the line's end each scene like this one that agrees with the port was played, with these scripts of it.
pub record PlaysEachIn (HasOrder : Scene → List PlainEntry → Type 0) (first : Scene) (scripts : Scene → List Script)
    (roles : List Role) (start v : PortValue) (ticks : ℕ) (stand : Stand) : Type 0 where
  pub ticks_are : ticks ≡ ticks_on first.port (phase_at first.session start.terminal.phase)
  pub grows : KnowsMore (call_in start.kept) (call_in v.kept)
  pub each : (s : Scene) → IsLike first s → Agrees s v → PlayingIn HasOrder s (scripts s) roles start v ticks stand

abbrev pub PlaysEach : (first : Scene) → (Scene → List Script) → List Role → (start v : PortValue) → (ticks : ℕ) → Stand
    → Type 0
PlaysEach first scripts roles start v ticks stand = PlaysEachIn HasOneOrder first scripts roles start v ticks stand

-- .. up to the end of the phase
pub record EndsEachIn (HasOrder : Scene → List PlainEntry → Type 0) (first : Scene) (start new : PortValue)
    (putter now : PutterState Flagged) (run : ℕ) : Type 0 where
  pub grows : KnowsMore (call_in start.kept) (call_in new.kept)
  pub each : (s : Scene) → IsLike first s → Agrees s new → EndsAfterLineIn HasOrder s start new putter now run

abbrev pub EndsEach : (first : Scene) → (start new : PortValue) → (putter now : PutterState Flagged) → (run : ℕ)
    → Type 0
EndsEach first start new putter now run = EndsEachIn HasOneOrder first start new putter now run
