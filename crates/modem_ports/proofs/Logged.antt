-- The log of a port with modem lines beside a journal to which the port has come, in a session that was played.
use Rattle.std.proofs.Common.{◌≡◌, ℕ, List, ◌++◌, length, sym, subst, arith}
use Rattle.tty_calls.specs.Plain.{PlainEntry}
use Rattle.tty_calls.specs.Sessions.{PlainSession}
use Rattle.port_core.specs.Ports.{PortValue}
use Rattle.legal_runs.specs.Order.{first_place}
use Rattle.play_base.specs.Roles.{Scene}
use Rattle.play_base.specs.Scenes.{IsOfSceneIn}
use Rattle.order_laws.specs.Agreed.{Agrees, IsLike}
use Rattle.passed_calls.specs.Logs.{logged_on}
use Rattle.order_laws.specs.Witness.{scene_on}
use Rattle.order_laws.specs.Sessions.{journal_in}
use Rattle.passed_ports.proofs.Played.{is_later}
use Rattle.modem_text.specs.Sessions.{ModemSession}
use Rattle.modem_steps.specs.Order.{AreEntriesInTurn}
use Rattle.modem_one.specs.Desk.{DeskState, state_at}
use Rattle.modem_one.specs.Later.{IsDeskAt}
use Rattle.modem_one.specs.Played.{port_in, IsLogged}
use Rattle.modem_ports.proofs.Lines.{entries_both, place_in}

-- the entries behind those of the port are in their turn too
pub logged_in : {HasOrder : Scene → List PlainEntry → Type 0} (first : Scene) (session : ModemSession)
    (played : PlainSession) (v : PortValue) (d : DeskState) (due : List ℕ) (journal rest : List PlainEntry)
    → IsDeskAt first session v d due
    → IsLike first (scene_on first.port played)
    → Agrees (scene_on first.port played) v
    → IsOfSceneIn HasOrder (scene_on first.port played) v
    → journal ≡ v.journal ++ rest
    → AreEntriesInTurn played (port_in session played first.port journal) (logged_on first.port d.log)
    (place_in first played v) (length v.journal) rest
    → IsLogged played (port_in session played first.port journal) d.log
logged_in first session played v d due journal rest desk like agrees of entries turns =
    let p = first.port in
    let port = port_in session played p journal in
    let later = is_later (scene_on p played) v journal rest of entries in
    let was = desk.ordered.turns played like agrees (journal_in p played journal) later in
    record {
      last = state_at d desk.at_entry due;
      leads = desk.logged.leads (journal_in p played journal) later;
      in_turn = record {
        entries = subst (λ (es : List PlainEntry).
            AreEntriesInTurn played port (logged_on p d.log) (first_place p played) 0 es) (sym entries)
            (entries_both played port (logged_on p d.log) (first_place p played) 0 (length v.journal) v.journal rest
            (omega arith) was.entries_are turns);
        events = was.events_are;
      };
    }
