-- The log of a port whose journal still grows: what is said of it holds of each journal that the port can come to.
use Rattle.std.specs.Prelude.{◌≡◌, ◌≤◌, ℕ, List, [], ◌∷◌, length}
use Rattle.tty_calls.specs.Plain.{PlainEntry}
use Rattle.tty_calls.specs.Sessions.{PlainSession}
use Rattle.port_core.specs.Ports.{PortValue}
use Rattle.legal_runs.specs.Order.{first_place}
use Rattle.play_base.specs.Roles.{Scene}
use Rattle.order_laws.specs.Agreed.{Agrees, IsLike}
use Rattle.passed_calls.specs.Journals.{Journal}
use Rattle.passed_calls.specs.Logs.{logged_on}
use Rattle.order_laws.specs.Witness.{scene_on}
use Rattle.order_laws.specs.Later.{IsLater}
use Rattle.modem_text.specs.Events.{ModemLog}
use Rattle.modem_text.specs.Sessions.{ModemSession}
use Rattle.modem_steps.specs.Steps.{Port, ModemState, first_state, Leads}
use Rattle.modem_steps.specs.Order.{AreEntriesInTurn, AreEventsInTurn}
use Rattle.modem_one.specs.Desk.{DeskState, state_at}

abbrev pub port_with : ℕ → ModemSession → Journal → Port
port_with p session journal = record { number = p; session = session; journal = journal }

-- the log so far, and where it leads, whatever comes
pub record HasLogged (p : ℕ) (session : ModemSession) (log : ModemLog) (v : PortValue) (u : ModemState) : Type 0 where
  pub leads : (journal : Journal)
      → IsLater v journal
      → Leads (port_with p session journal) (first_state p session) (logged_on p log) u
  pub at : u.at ≤ length v.journal

-- these entries and the log's events are in their turn
pub record AreOrdered (played : PlainSession) (port : Port) (log : ModemLog) (entries : List PlainEntry) : Type 0 where
  pub entries_are : AreEntriesInTurn played port (logged_on port.number log) (first_place port.number played) 0 entries
  pub events_are : AreEventsInTurn played port (first_state port.number port.session) (logged_on port.number log)

-- .. whatever comes, and whatever session the port is found to have played
pub record HasOrdered (first : Scene) (session : ModemSession) (log : ModemLog) (v : PortValue) : Type 0 where
  pub turns : (played : PlainSession)
      → IsLike first (scene_on first.port played)
      → Agrees (scene_on first.port played) v
      → (journal : Journal)
      → IsLater v journal
      → AreOrdered played (port_with first.port session journal) log v.journal

-- the desk of a port, where the log leads, with the hangups that are due
pub record IsDeskAt (first : Scene) (session : ModemSession) (v : PortValue) (d : DeskState)
    (due : List ℕ) : Type 0 where
  pub number : first.port ≡ d.number
  pub at_entry : ℕ
  pub logged : HasLogged first.port session d.log v (state_at d at_entry due)
  pub ordered : HasOrdered first session d.log v
  -- a hangup is due since the latest entry
  pub late : (h : ℕ) → due ≡ h ∷ [] → at_entry ≡ length v.journal
