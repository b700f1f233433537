-- A port with modem lines between two phases, and what a phase is played of.
use Rattle.std.specs.Prelude.{◌≡◌, ◌<◌, ◌++◌, ◌∷◌, [], ℕ, IsTrue, List, All, length, map, slice_index_or, filter}
use Rattle.std.specs.Prelude.{◌==◌}
use Rattle.tty_base.specs.Lines.{is_step}
use Rattle.tty_base.specs.declared.lines.LineStep.{LineStep}
use Rattle.tty_calls.specs.declared.answers.Denied.{Denied}
use Rattle.tty_calls.specs.declared.answers.Denied.TheVariants.{NoMemory, Full}
use Rattle.tty_calls.specs.declared.sessions.Script.{Script}
use Rattle.tty_calls.specs.declared.sessions.Session.{Session}
use Rattle.tty_calls.specs.Sessions.{script_of, scripts_on, line_on, ticks_on}
use Rattle.legal_runs.specs.Legal.{phase_at}
use Rattle.port_core.specs.Ports.{PortValue, IsPort}
use Rattle.play_base.specs.Roles.{Scene, scene_of, names_in, role_in}
use Rattle.play_base.specs.Casting.{HaveSameCallers, own_scripts, scripts_at, cast_of}
use Rattle.one_thread.specs.Turns.{role_numbers}
use Rattle.play_base.specs.declared.roles.Role.{Role}
use Rattle.passed_calls.specs.Blocks.{number_on}
use Rattle.order_laws.specs.Filled.{AreNextSteps}
use Rattle.passed_ports.specs.Ports.{IsSceneOf}
use Rattle.modem_text.specs.Sessions.{ModemCall, ModemSession, PinStep, blocks_in, modem_session_of}
use Rattle.modem_text.specs.declared.sessions.ModemSession.{ModemSession as KeptSession}
use Rattle.modem_text.specs.Within.{IsModemSessionWithin}
use Rattle.modem_steps.specs.Derived.{carrier_on}
use Rattle.modem_one.specs.Left.{AreCallsLeft, AreItemsLeft}
use Rattle.modem_one.specs.Played.{by_blocks}
use Rattle.modem_ports.specs.declared.phases.ModemStation.{ModemStation}
use Rattle.modem_ports.specs.Ports.{IsBeforeModems, IsModemsFull}

-- at the beginning of phase k, with room for the next step of each caller
pub record IsBetween (first : Scene) (session : ModemSession) (k run : ℕ) (at : ModemStation) : Type 0 where
  pub before : IsBeforeModems first session at.station.port at.station.putter at.station.line run at.desk
  pub phase : at.station.port.terminal.phase ≡ k
  pub port : IsPort at.station.port
  pub names : at.names ≡ names_in first
  pub steps : length at.station.steps.items ≡ length at.names

-- memory was wanting, or the journal is full
abbrev pub IsStoppedBy : Denied → Scene → ModemSession → ModemStation → Type 0
IsStoppedBy NoMemory first session at = Unit {0}
IsStoppedBy Full first session at =
    IsModemsFull first session at.station.port at.station.putter at.station.line at.desk

-- ---- a phase

-- a session, with the scripts of the phase on all ports: those of `carrier` among them, and none has a call
pub record Setting : Type 0 where
  pub first : Scene
  pub session : ModemSession
  pub callers : List Script

-- phase k of a port of a session that is kept, and of its ports' part with the blocks of `carrier`
abbrev pub setting_of : ℕ → KeptSession → Session → ℕ → Setting
setting_of p kept base k =
    record { first = scene_of p base; session = modem_session_of kept; callers = scripts_at base k }

-- the roles of the phase's callers
pub record AreCastIn (s : Setting) (v : PortValue) (roles : List Role) : Type 0 where
  pub steps : List ℕ
  pub next : AreNextSteps v.terminal (length (names_in s.first)) steps
  pub cast : (others : List Script)
      → HaveSameCallers others s.callers
      → map (role_in others) roles ≡ cast_of (names_in s.first) steps s.first.port (map script_of others)

-- the numbers of the callers of phase k, in the text's order
abbrev pub numbers_in : ℕ → ModemSession → (k : ℕ) → List ℕ
numbers_in p session k =
    map (λ s. number_on p (blocks_in session) s.name)
    (filter (λ s. s.port == p) (slice_index_or (map (λ phase. phase.callers) session.phases) k []))

pub record BeginsPhase (s : Setting) (roles : List Role) (at : ModemStation) (k run : ℕ) (left : List (List ModemCall))
    (items : List PinStep) (steps : List LineStep) (ticks : ℕ) : Type 0 where
  pub within : IsModemSessionWithin s.session
  pub scene : IsSceneOf s.first (by_blocks s.session)
  pub port : s.first.port < s.session.ports
  pub phase : k < length s.first.session.phases
  pub own : own_scripts s.first.port (map script_of s.callers) ≡ scripts_on s.first.port (phase_at s.first.session k)
  pub between : IsBetween s.first s.session k run at
  pub roles_are : AreCastIn s at.station.port roles
  pub numbers : role_numbers roles ≡ numbers_in s.first.port s.session k ++ carrier_on s.first.port s.session ∷ []
  pub calls : AreCallsLeft s.first.port k s.session roles at.desk.next left
  pub items_are : AreItemsLeft s.first.port k s.session at.desk.items items
  pub steps_are : steps ≡ line_on s.first.port (phase_at s.first.session k)
  pub good : All (λ step. IsTrue (is_step step)) steps
  pub ticks_are : ticks ≡ ticks_on s.first.port (phase_at s.first.session k)
