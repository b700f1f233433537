-- What a player keeps whose session is only known as its callers pass calls down: that some session is played, and
-- each that agrees with the port.
use Rattle.std.specs.Prelude.{◌≡◌, ◌+◌, ℕ, List, Some, length, slice_get}
use Rattle.tty_calls.specs.declared.sessions.Script.{Script}
use Rattle.tty_calls.specs.Plain.{PlainCall, PlainEntry}
use Rattle.tty_calls.specs.Sessions.{PlainSession}
use Rattle.passed_calls.specs.Derived.{Passing, BlockPhase, all_calls}
use Rattle.port_core.specs.Ports.{PortValue}
use Rattle.play_base.specs.Roles.{Scene}
use Rattle.play_base.specs.Scenes.{HasOneOrder}
use Rattle.one_thread.specs.Turns.{IsNextCall, standing_at}
use Rattle.play_base.specs.declared.roles.Role.{Role}
use Rattle.one_thread.specs.declared.after_line.Stand.{Stand}
use Rattle.order_laws.specs.Agreed.{Agrees, IsLike, PlaysEachIn}
use Rattle.passed_calls.specs.Within.{ArePassedWithin}
use Rattle.order_laws.specs.Passed.{IsPassedBy, AreUpTo, AreMade, made_by}

-- a port of a session
abbrev pub scene_on : ℕ → PlainSession → Scene
scene_on p session = record { port = p; session = session }

-- a session in which these were passed down agrees with the port
pub record HasPassed (first : Scene) (phases : List BlockPhase) (mine : ℕ → List Passing) (v : PortValue) : Type 0 where
  pub session : PlainSession
  pub by : IsPassedBy first.port phases mine session
  pub within : ArePassedWithin by.passed
  pub ports : session.ports ≡ first.session.ports
  pub flips : session.flips ≡ first.session.flips
  pub like : IsLike first (scene_on first.port session)
  pub agrees : Agrees (scene_on first.port session) v

-- Since the line's end of a phase, where callers have made just what they have passed down, in an order.
pub record IsPlayingIn (HasOrder : Scene → List PlainEntry → Type 0) (first : Scene) (phases : List BlockPhase)
    (scripts : Scene → List Script) (roles : List Role) (start : PortValue) (mine : ℕ → List Passing) (v : PortValue)
    (ticks : ℕ) (stand : Stand) : Type 0 where
  pub each : PlaysEachIn HasOrder first scripts roles start v ticks stand
  pub has : HasPassed first phases mine v
  pub up_to : AreUpTo first.port phases v.terminal.phase mine
  pub made : AreMade mine v

abbrev pub IsPlaying : (first : Scene) → List BlockPhase → (Scene → List Script) → List Role → (start : PortValue)
    → (mine : ℕ → List Passing) → PortValue → (ticks : ℕ) → Stand
    → Type 0
IsPlaying first phases scripts roles start mine v ticks stand =
    IsPlayingIn HasOneOrder first phases scripts roles start mine v ticks stand

-- .. where the caller at a place is to make a call, which it has passed down last
pub record IsCallingIn (HasOrder : Scene → List PlainEntry → Type 0) (first : Scene) (phases : List BlockPhase)
    (scripts : Scene → List Script) (roles : List Role) (start : PortValue) (more : ℕ → List Passing) (v : PortValue)
    (ticks : ℕ) (stand : Stand) (place : ℕ) (call : PlainCall) : Type 0 where
  pub each : PlaysEachIn HasOrder first scripts roles start v ticks stand
  pub has : HasPassed first phases more v
  pub up_to : AreUpTo first.port phases v.terminal.phase more
  pub role : Role
  pub at_place : slice_get roles place ≡ Some role
  pub own : length (all_calls (more role.number)) ≡ (standing_at v role.number).next + 1
  pub others : (d : ℕ) → (d ≡ role.number → ⊥) → length (all_calls (more d)) ≡ made_by v d
  pub next : IsNextCall (scripts (scene_on first.port has.session)) roles v place call

abbrev pub IsCalling : (first : Scene) → List BlockPhase → (Scene → List Script) → List Role → (start : PortValue)
    → (more : ℕ → List Passing) → PortValue → (ticks : ℕ) → Stand → (place : ℕ) → PlainCall
    → Type 0
IsCalling first phases scripts roles start more v ticks stand place call =
    IsCallingIn HasOneOrder first phases scripts roles start more v ticks stand place call
