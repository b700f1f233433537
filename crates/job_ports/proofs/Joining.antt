-- Ports that were played one after the other make a session that was played.
use Rattle.std.proofs.Common.{◌≡◌, ◌≤◌, ◌<◌, ℕ, ◌+◌}
use Rattle.std.proofs.Common.{false, List, [], ◌++◌, length}
use Rattle.std.proofs.Common.{refl, subst}
use Rattle.std.specs.Prelude.{All}
use Rattle.tty_calls.specs.declared.answers.PortEnd.{PortEnd}
use Rattle.tty_calls.specs.declared.journals.PortRun.{PortRun}
use Rattle.tty_calls.specs.Plain.{PlainEntry}
use Rattle.tty_calls.specs.Sessions.{PlainSession}
use Rattle.tty_terminal.specs.Standing.{standing_in, at_first}
use Rattle.passed_calls.specs.Blocks.{names_on}
use Rattle.passed_calls.specs.Derived.{Passing}
use Rattle.passed_calls.specs.Logs.{logged_on}
use Rattle.passed_calls.specs.Within.{ArePassedWithin}
use Rattle.job_text.specs.Events.{JobEvent, JobLog}
use Rattle.job_text.specs.Sessions.{JobsSession, blocks_in}
use Rattle.job_text.specs.Within.{IsJobsSessionWithin}
use Rattle.job_steps.specs.Derived.{passings_from, job_call_at, plain_call}
use Rattle.job_steps.specs.Steps.{first_state, Leads}
use Rattle.job_steps.specs.Order.{AreEventsInTurn}
use Rattle.job_one.specs.Played.{answered_by, derived_with, port_in, all_passed, by_blocks}
use Rattle.job_one.specs.Played.{IsJobPlayedOn, AreJobsPlayed}
use Rattle.job_one.proofs.Deriving.{whole_derived}
use Rattle.job_ports.specs.Ports.{AreFirstPlayed}
use Rattle.passed_ports.proofs.Started.{nothing_begun}
use Rattle.passed_ports.proofs.Joining.{past_passings, passed_within, each_whole, each_played}
use Rattle.order_laws.specs.Sessions.{journal_on, begun_calls}

-- ---- what a port was passed, by its events

abbrev begun_by_events : JobsSession → (p : ℕ) → List JobEvent → List PlainEntry → List Passing
begun_by_events session p es journal =
    begun_calls (λ c. answered_by c es) (λ c step. plain_call (job_call_at p session c step))
    (length (names_on p (blocks_in session))) journal

abbrev passed_by_events : JobsSession → (p : ℕ) → List JobEvent → List PlainEntry → List Passing
passed_by_events session p es journal =
    passings_from (job_call_at p session) 0 es ++ begun_by_events session p es journal

abbrev Was : JobsSession → (p : ℕ) → PlainSession → JobLog → PortRun → PortEnd → Type 0
Was session p played log run end = IsJobPlayedOn p session played log run end

pub none_begun : (session : JobsSession) (p : ℕ) (es : List JobEvent) (journal : List PlainEntry)
    → ((c : ℕ) → (standing_in c journal at_first).begun ≡ false)
    → begun_by_events session p es journal ≡ []
none_begun session p es journal none =
    nothing_begun (λ c. answered_by c es) (λ c step. plain_call (job_call_at p session c step))
    (length (names_on p (blocks_in session))) journal none

-- ---- the same with a log that has the same of the port

played_log : (p : ℕ) (session : JobsSession) (played : PlainSession) (log more : JobLog) (run : PortRun) (end : PortEnd)
    → logged_on p log ≡ logged_on p more
    → IsJobPlayedOn p session played log run end
    → IsJobPlayedOn p session played more run end
played_log p session played log more run end same h =
    let port = port_in session played p run.journal.items in
    record {
      played_on = h.played_on;
      in_order = h.in_order;
      logged = record {
        last = h.logged.last;
        leads = subst (λ (ls : JobLog). Leads port (first_state port) ls h.logged.last) same h.logged.leads;
        in_turn = subst (λ (ls : JobLog). AreEventsInTurn played port (first_state port) ls) same h.logged.in_turn;
      };
      whole = λ not_full.
          let w = h.whole not_full in
          record {
            run = record {
              last = w.run.last;
              leads = subst (λ (ls : JobLog). Leads port (first_state port) ls w.run.last) same w.run.leads;
              nothing_due = w.run.nothing_due;
              all_sent = w.run.all_sent;
            };
            answered = w.answered;
          };
    }

-- ---- all ports

pub no_passings : (session : JobsSession) (count : ℕ) (log : JobLog) (runs : List PortRun) (q : ℕ)
    → length runs ≡ count
    → All (λ l. l.port < count) log
    → length runs ≤ q
    → all_passed session log q (journal_on runs q) ≡ []
no_passings session count log runs q many below le =
    past_passings (by_blocks session) (passed_by_events session) (begun_by_events session) (Was session) count log runs
    q
    (none_begun session q [] [] (λ c. refl)) many below le

pub all_within : (session : JobsSession) (log : JobLog) (runs : List PortRun) (ends : List PortEnd)
    → AreFirstPlayed session session.ports log runs ends
    → ArePassedWithin (λ p. all_passed session log p (journal_on runs p))
all_within session log runs ends h =
    passed_within (by_blocks session) (passed_by_events session) (begun_by_events session) (Was session) session.ports
    log
    runs ends (λ q. none_begun session q [] [] (λ c. refl)) h

pub all_played : (session : JobsSession) (log : JobLog) (runs : List PortRun) (ends : List PortEnd)
    → IsJobsSessionWithin session
    → AreFirstPlayed session session.ports log runs ends
    → AreJobsPlayed session log runs ends (derived_with session log runs)
all_played session log runs ends within h =
    let blocks = by_blocks session in
    let passed = passed_by_events session in
    let begun = begun_by_events session in
    record {
      runs_of_all = h.runs_of;
      ends_of_all = h.ends_of;
      is_played = refl;
      is_derived = λ not_full. whole_derived session log runs
          (λ q. each_whole blocks passed begun (Was session) session.ports log runs ends q
          (λ es. none_begun session q es [] (λ c. refl)) h not_full);
      each = each_played blocks passed begun (Was session) session.ports log runs ends
          (λ q. none_begun session q [] [] (λ c. refl))
          (λ p played own more run end. played_log p session played own more run end) within.blocks h;
    }
