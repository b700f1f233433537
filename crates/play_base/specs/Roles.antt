-- The callers of a phase as the player has them.
use Rattle.std.specs.Prelude.{◌≡◌, ◌≢◌, ◌<◌, ◌+◌, ℕ, List, [], Option, None, Some, All}
use Rattle.std.specs.Prelude.{AllPairs, Contains, length, map, sum, slice_get, slice_index_or}
use Rattle.tty_calls.specs.declared.sessions.Script.{Script}
use Rattle.tty_calls.specs.declared.sessions.Session.{Session}
use Rattle.tty_calls.specs.Plain.{PlainCall}
use Rattle.tty_calls.specs.Limits.{IsCallWithin}
use Rattle.tty_calls.specs.Sessions.{PlainSession, session_of, scripts_over, names_of, call_at, counts_on}
use Rattle.tty_terminal.specs.Steps.{callers_in}
use Rattle.legal_runs.specs.Legal.{IsCallerOf, first_step, steps_in}
use Rattle.legal_runs.specs.Order.{callers_of}
use Rattle.play_base.specs.declared.roles.Role.{Role}

-- a port of a session that is played
pub record Scene : Type 0 where
  pub port : ℕ
  pub session : PlainSession

abbrev pub scene_of : ℕ → Session → Scene
scene_of p session = record { port = p; session = session_of session }

-- a caller of a phase: its number, its first step in it, and its calls of it
pub record PlainRole : Type 0 where
  pub number : ℕ
  pub first : ℕ
  pub calls : List PlainCall

-- the calls of a script
abbrev pub calls_in : Option Script → List PlainCall
calls_in None = []
calls_in (Some script) = script.calls.items

-- a role, with its script among those of the phase
abbrev pub role_in : List Script → Role → PlainRole
role_in scripts r = record { number = r.number; first = r.first; calls = calls_in (slice_get scripts r.place) }

abbrev pub numbers_in : List PlainRole → List ℕ
numbers_in roles = map (λ r. r.number) roles

-- the role of a caller of phase k
pub record IsRoleOf (s : Scene) (k : ℕ) (r : PlainRole) : Type 0 where
  pub known : r.number < sum (counts_on s.port s.session)
  pub caller : IsCallerOf s.port s.session k r.number
  pub first : r.first ≡ first_step s.port s.session k r.number
  pub count : length r.calls ≡ steps_in s.port s.session k r.number
  pub calls : (i : ℕ) (call : PlainCall)
      → slice_get r.calls i ≡ Some call
      → call_at s.port s.session r.number (r.first + i) ≡ Some call
  pub within : All IsCallWithin r.calls

-- the roles of the callers of phase k, in the text's order, each caller once
pub record AreRolesOf (s : Scene) (k : ℕ) (roles : List PlainRole) : Type 0 where
  pub numbers : numbers_in roles ≡ callers_of s.port s.session k
  pub each : All (IsRoleOf s k) roles
  pub own_numbers : AllPairs (λ c d. c ≢ d) (numbers_in roles)
  pub count : length roles ≡ callers_in (counts_on s.port s.session) k
  pub all : (c : ℕ) → IsCallerOf s.port s.session k c → Contains (numbers_in roles) c

-- the names of the callers of the scene
abbrev pub names_in : Scene → List (List ℕ)
names_in s = names_of (scripts_over s.port s.session.phases)

-- for each caller of the scene its first step in phase k
pub record AreFirstSteps (s : Scene) (k : ℕ) (steps : List ℕ) : Type 0 where
  pub count : length steps ≡ length (names_in s)
  pub each : (c : ℕ) → slice_index_or steps c 0 ≡ first_step s.port s.session k c
