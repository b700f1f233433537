-- Ports that were played one after the other make a session that was played.
use Rattle.std.proofs.Common.{◌≡◌, ℕ, ◌+◌}
use Rattle.std.proofs.Common.{List, [], ◌++◌}
use Rattle.std.proofs.Common.{refl, ap, ◌∙◌, subst, append-nil}
use Rattle.tty_calls.specs.declared.answers.PortEnd.{PortEnd}
use Rattle.tty_calls.specs.declared.journals.PortRun.{PortRun}
use Rattle.tty_calls.specs.Sessions.{PlainSession}
use Rattle.legal_runs.specs.Order.{first_place}
use Rattle.passed_calls.specs.Derived.{Passing, passed_phases}
use Rattle.passed_calls.specs.Logs.{logged_on}
use Rattle.passed_calls.specs.Within.{ArePassedWithin}
use Rattle.modem_text.specs.Events.{ModemLog}
use Rattle.modem_text.specs.Sessions.{ModemSession}
use Rattle.modem_text.specs.Within.{IsModemSessionWithin}
use Rattle.modem_steps.specs.Derived.{block_phases, passings_on, derived}
use Rattle.modem_steps.specs.Steps.{first_state, Leads}
use Rattle.modem_steps.specs.Order.{AreEntriesInTurn, AreEventsInTurn}
use Rattle.modem_one.specs.Played.{begun_in, derived_with, port_in, all_passed, by_blocks}
use Rattle.modem_one.specs.Played.{IsModemPlayedOn, AreModemsPlayed}
use Rattle.passed_ports.proofs.Joining.{passed_within, each_whole, each_played}
use Rattle.modem_ports.specs.Ports.{AreFirstPlayed}
use Rattle.order_laws.specs.Sessions.{journal_on}
use Rattle.modem_derived.proofs.ByEvents.{begun_by_events, passed_by_events, Was, none_begun}

-- ---- the same with a log that has the same of the port

played_log : (p : ℕ) (session : ModemSession) (played : PlainSession) (log more : ModemLog) (run : PortRun)
    (end : PortEnd)
    → logged_on p log ≡ logged_on p more
    → IsModemPlayedOn p session played log run end
    → IsModemPlayedOn p session played more run end
played_log p session played log more run end same h =
    let port = port_in session played p run.journal.items in
    record {
      played_on = h.played_on;
      logged = record {
        last = h.logged.last;
        leads = subst (λ (ls : ModemLog). Leads port (first_state p session) ls h.logged.last) same h.logged.leads;
        in_turn = record {
          entries = subst (λ (ls : ModemLog).
              AreEntriesInTurn played port ls (first_place p played) 0 run.journal.items) same h.logged.in_turn.entries;
          events = subst (λ (ls : ModemLog). AreEventsInTurn played port (first_state p session) ls) same
              h.logged.in_turn.events;
        };
      };
      seen = h.seen;
      whole = λ not_full.
          let w = h.whole not_full in
          record {
            run = record {
              last = w.run.last;
              leads = subst (λ (ls : ModemLog). Leads port (first_state p session) ls w.run.last) same w.run.leads;
              nothing_due = w.run.nothing_due;
            };
            answered = w.answered;
            items = w.items;
          };
    }

-- ---- all ports

whole_derived : (session : ModemSession) (log : ModemLog) (runs : List PortRun)
    → ((q : ℕ) → begun_in session log q (journal_on runs q) ≡ [])
    → derived_with session log runs ≡ derived session log
whole_derived session log runs none = λ i. record {
  version = session.version;
  ports = session.ports;
  flips = session.flips;
  phases = passed_phases
      (λ q.
      (ap (λ (ms : List Passing). passings_on session log q ++ ms) (none q) ∙ append-nil (passings_on session log q)) i)
      (block_phases session);
}

pub all_within : (session : ModemSession) (log : ModemLog) (runs : List PortRun) (ends : List PortEnd)
    → AreFirstPlayed session session.ports log runs ends
    → ArePassedWithin (λ p. all_passed session log p (journal_on runs p))
all_within session log runs ends h =
    passed_within (by_blocks session) (passed_by_events session) (begun_by_events session) (Was session) session.ports
    log
    runs ends (λ q. none_begun session q [] [] (λ c. refl)) h

pub all_played : (session : ModemSession) (log : ModemLog) (runs : List PortRun) (ends : List PortEnd)
    → IsModemSessionWithin session
    → AreFirstPlayed session session.ports log runs ends
    → AreModemsPlayed session log runs ends (derived_with session log runs)
all_played session log runs ends within h =
    let blocks = by_blocks session in
    let passed = passed_by_events session in
    let begun = begun_by_events session in
    record {
      runs_of_all = h.runs_of;
      ends_of_all = h.ends_of;
      is_played = refl;
      is_derived = λ not_full. whole_derived session log runs
          (λ q. each_whole blocks passed begun (Was session) session.ports log runs ends q
          (λ es. none_begun session q es [] (λ c. refl)) h not_full);
      each = each_played blocks passed begun (Was session) session.ports log runs ends
          (λ q. none_begun session q [] [] (λ c. refl))
          (λ p played own more run end. played_log p session played own more run end) within.blocks h;
    }
