-- A port that was played, whatever session its callers' calls are found to make.
use Rattle.std.specs.Prelude.{◌≡◌, ◌≢◌, ◌≤◌, ◌<◌, ℕ, List, [], All, Some, length, slice_get}
use Rattle.tty_base.specs.Sizes.{MOST_ENTRIES}
use Rattle.tty_calls.specs.declared.answers.PortEnd.{PortEnd}
use Rattle.tty_calls.specs.declared.journals.PortRun.{PortRun}
use Rattle.tty_calls.specs.Limits.{IsCallWithin, IsWithinLimits}
use Rattle.tty_calls.specs.Sessions.{PlainSession}
use Rattle.play_base.specs.Roles.{Scene}
use Rattle.passed_calls.specs.Derived.{Passing, by_caller, calls_at}
use Rattle.passed_calls.specs.Logs.{logged_on}
use Rattle.passed_calls.specs.declared.logs.Logged.{Logged}
use Rattle.order_laws.specs.Passed.{IsOfBlocks, IsPassedBy}
use Rattle.order_laws.specs.Sessions.{BlockSession}

-- a scene that is played of it: the same but for the callers' calls
pub record IsSceneOf (first : Scene) (session : BlockSession) : Type 0 where
  pub version : first.session.version ≡ session.version
  pub ports : first.session.ports ≡ session.ports
  pub flips : first.session.flips ≡ session.flips
  pub of_blocks : IsOfBlocks first.port session.phases first.session

-- what a port was passed keeps the limits of calls, with one for each call of a caller at most
pub record ArePassingsWithin (passings : List Passing) : Type 0 where
  pub calls : All (λ m. All IsCallWithin m.calls) passings
  pub single : (c step : ℕ) → length (calls_at (by_caller c passings) step) ≤ 1

-- a session of the same blocks in which a port was passed this
pub record IsPlayedWith (session : BlockSession) (p : ℕ) (passings : List Passing) (played : PlainSession) : Type 0
  where
    pub version : played.version ≡ session.version
    pub flips : played.flips ≡ session.flips
    pub limits : IsWithinLimits played
    pub passed : IsPassedBy p session.phases (λ c. by_caller c passings) played

-- A port was passed this, of which it has begun some and not answered it; and each such session was played so.
pub record IsPlayedSo (session : BlockSession) (p : ℕ) (passings begun : List Passing)
    (IsPlayed : PlainSession → Type 0) (run : PortRun) : Type 0 where
  pub within : ArePassingsWithin passings
  pub none_begun : length run.journal.items ≢ MOST_ENTRIES → begun ≡ []
  pub each : (played : PlainSession) → IsPlayedWith session p passings played → IsPlayed played

-- The first ports were played, each with a log of its own; and this is the log of all of them.
pub record ArePlayedFirst {E : Type 0} (IsPlayed : (p : ℕ) → List (Logged E) → PortRun → PortEnd → Type 0) (count : ℕ)
    (log : List (Logged E)) (runs : List PortRun) (ends : List PortEnd) : Type 0 where
  pub runs_of : length runs ≡ count
  pub ends_of : length ends ≡ count
  pub below : All (λ l. l.port < count) log
  pub each : (p : ℕ) (run : PortRun) (end : PortEnd)
      → slice_get runs p ≡ Some run
      → slice_get ends p ≡ Some end
      → IsPlayed p (logged_on p log) run end
