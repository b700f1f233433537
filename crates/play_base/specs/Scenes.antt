-- A port that plays a scene, at each moment.
use Rattle.std.specs.Prelude.{◌≡◌, ◌≤◌, ◌<◌, ℕ, List, false, IsTrue, None, All, length}
use Rattle.tty_base.specs.Sizes.{MOST_ENTRIES}
use Rattle.tty_calls.specs.Plain.{PlainEntry}
use Rattle.tty_calls.specs.Sessions.{call_at, counts_on}
use Rattle.tty_terminal.specs.declared.callers.CallerState.{CallerState}
use Rattle.tty_terminal.specs.Terminals.{Terminal, caller_at}
use Rattle.tty_terminal.specs.Steps.{follows}
use Rattle.tty_terminal.specs.Runs.{KnowsMore, is_flush}
use Rattle.legal_runs.specs.Legal.{first_step, AreInPhases, flip_on}
use Rattle.port_core.specs.Ports.{PortValue, call_in}
use Rattle.legal_runs.specs.Order.{Place, first_place, place_after, AreInTurn}
use Rattle.play_base.specs.Roles.{Scene}

-- each flush run so far has a number below this one
abbrev pub RunsBelow : ℕ → List PlainEntry → Type 0
RunsBelow run journal = All (λ e. IsTrue (is_flush e.event) → e.step < run) journal

-- where a journal of the scene stands
abbrev pub place_of : Scene → List PlainEntry → Place
place_of s journal = place_after (call_at s.port s.session) (first_place s.port s.session) journal

-- what is known of the order of a journal: nothing; or that it is the order of one thread
abbrev pub HasAnyOrder : Scene → List PlainEntry → Type 0
HasAnyOrder s journal = Unit {0}

abbrev pub HasOneOrder : Scene → List PlainEntry → Type 0
HasOneOrder s journal = AreInTurn s.port s.session (first_place s.port s.session) journal

-- The port plays the scene: it keeps the session's calls and no others, and its journal is on the way and in an order.
pub record IsOfSceneIn (HasOrder : Scene → List PlainEntry → Type 0) (s : Scene) (v : PortValue) : Type 0 where
  pub counts : v.counts ≡ counts_on s.port s.session
  pub capacity : v.flip.capacity ≡ flip_on s.port s.session
  pub limit : v.limit ≡ MOST_ENTRIES
  pub known : KnowsMore (call_in v.kept) (call_at s.port s.session)
  pub in_phases : AreInPhases s.port s.session 0 v.journal
  pub turns : HasOrder s v.journal

abbrev pub IsOfScene : Scene → PortValue → Type 0
IsOfScene s v = IsOfSceneIn HasOneOrder s v

-- a caller between two calls, whose next step is this one, and who is not over
abbrev pub caller_at_rest : ℕ → CallerState
caller_at_rest next =
    record { next = next; over = false; waits = None; parts = 0; taken = 0; generation = 0; bound = None }

-- each caller is at its first step of phase k
abbrev pub AreAtFirst : Scene → ℕ → Terminal → Type 0
AreAtFirst s k t = (c : ℕ) → caller_at t c ≡ caller_at_rest (first_step s.port s.session k c)

-- the next flush run has this number, and begins a run of its own
pub record BeginsRun (run : ℕ) (v : PortValue) : Type 0 where
  pub follows : IsTrue (follows v.terminal.flushed run 0)
  pub below : RunsBelow run v.journal
  pub few : run ≤ length v.journal
