-- One event more in the log of a port whose journal still grows.
use Rattle.std.proofs.Common.{◌≡◌, ◌≤◌, ℕ, List, [], ◌∷◌, ◌++◌, length, sym, ap, subst, arith, length-append}
use Rattle.tty_calls.specs.Plain.{PlainEntry}
use Rattle.port_core.specs.Ports.{PortValue}
use Rattle.passed_calls.specs.declared.logs.Logged.{Logged}
use Rattle.passed_calls.specs.Journals.{Journal}
use Rattle.passed_calls.specs.Logs.{logged_on}
use Rattle.order_laws.specs.Later.{IsLater, ComesBy}
use Rattle.order_laws.proofs.Laters.{later_before, long_enough, on_more}
use Rattle.modem_text.specs.Events.{ModemEvent, ModemLog}
use Rattle.modem_text.specs.Sessions.{ModemSession}
use Rattle.modem_steps.specs.Steps.{Port, ModemState, first_state, after_event, IsAllowed, Leads}
use Rattle.modem_one.specs.Later.{port_with, HasLogged}

leads_more : (port : Port) (s u : ModemState) (log : ModemLog) (l : Logged ModemEvent)
    → Leads port s log u
    → u.at ≤ l.at
    → l.at ≤ length port.journal.entries
    → IsAllowed port u l.at l.event
    → Leads port s (log ++ l ∷ []) (after_event port u l.at l.event)
leads_more port s u [] l h low high allowed = (
  subst (λ (x : ModemState). x.at ≤ l.at) h low,
  high,
  subst (λ (x : ModemState). IsAllowed port x l.at l.event) h allowed,
  ap (λ (x : ModemState). after_event port x l.at l.event) h,
)
leads_more port s u (x ∷ log) l h low high allowed =
    (h.0, h.1, h.2, leads_more port (after_event port s x.at x.event) u log l h.3 low high allowed)

-- by an event that is allowed now, whatever comes
pub logs : (p : ℕ) (session : ModemSession) (log : ModemLog) (v : PortValue) (u next : ModemState) (event : ModemEvent)
    → HasLogged p session log v u
    → ((j : Journal) → IsLater v j → IsAllowed (port_with p session j) u (length v.journal) event)
    → ((j : Journal) → IsLater v j → after_event (port_with p session j) u (length v.journal) event ≡ next)
    → next.at ≤ length v.journal
    → HasLogged p session (log ++ record { port = p; at = length v.journal; event = event } ∷ []) v next
logs p session log v u next event h allowed comes low =
    record {
      leads = λ j later.
          let port = port_with p session j in
          subst (λ (es : ModemLog). Leads port (first_state p session) es next)
          (sym (on_more p (length v.journal) event log))
          (subst (λ (x : ModemState). Leads port (first_state p session)
          (logged_on p log ++ record { port = p; at = length v.journal; event = event } ∷ []) x)
          (comes j later)
          (leads_more port (first_state p session) u (logged_on p log)
          (record { port = p; at = length v.journal; event = event }) (h.leads j later) h.at (long_enough v j later)
          (allowed j later)));
      at = low;
    }

-- by an entry of the port alone
pub log_stays : (p : ℕ) (session : ModemSession) (log : ModemLog) (v w : PortValue) (part : List PlainEntry)
    (u : ModemState)
    → ComesBy v w part
    → HasLogged p session log v u
    → HasLogged p session log w u
log_stays p session log v w part u by h =
    record {
      leads = λ j later. h.leads j (later_before v w part j by later);
      at = omega (arith, h.at, ap (λ (es : List PlainEntry). length es) by.added, length-append v.journal part);
    }
