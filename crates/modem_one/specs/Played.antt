-- What playing a session with modem lines comes to.
use Rattle.std.specs.Prelude.{◌≡◌, ◌≢◌, ◌==◌, ℕ, List, ◌++◌, Bool, false}
use Rattle.std.specs.Prelude.{Some, length, slice_get}
use Rattle.tty_calls.specs.declared.answers.PortEnd.{PortEnd}
use Rattle.tty_calls.specs.declared.journals.PortRun.{PortRun}
use Rattle.tty_calls.specs.Plain.{PlainEntry}
use Rattle.tty_calls.specs.Sessions.{PlainSession}
use Rattle.tty_terminal.specs.Standing.{Standing}
use Rattle.legal_runs.specs.Order.{AllSeeAll}
use Rattle.play_base.specs.Played.{IsPlayedOn}
use Rattle.passed_calls.specs.Blocks.{names_on}
use Rattle.passed_calls.specs.Logs.{logged_on}
use Rattle.passed_calls.specs.Derived.{Passing}
use Rattle.modem_text.specs.Events.{ModemEvent, pin_set, own, passed, carrier_lost, ModemLog, events_on}
use Rattle.modem_text.specs.Sessions.{ModemSession, blocks_in}
use Rattle.modem_steps.specs.Derived.{block_phases, calls_over, modem_call_at, plain_call, passings_on, derived}
use Rattle.modem_steps.specs.Steps.{Port, ModemState, first_state, next_of, items_on, Leads, IsModemRun}
use Rattle.modem_steps.specs.Order.{AreInModemTurn}
use Rattle.order_laws.specs.Sessions.{BlockSession, played_session, answer_count, begun_call, begun_calls, journal_in}
use Rattle.order_laws.specs.Sessions.{journal_on, AreNotFull}
use Rattle.tty_base.specs.Sizes.{MOST_ENTRIES}

-- ---- the session that was played, also where a journal is full

-- how many of a caller's calls were answered
abbrev pub is_answer_to : ℕ → ModemEvent → Bool
is_answer_to c (pin_set pin up) = false
is_answer_to c (own d step answer) = d == c
is_answer_to c (passed d step answer) = d == c
is_answer_to c (carrier_lost h) = false

abbrev pub answered_by : ℕ → List ModemEvent → ℕ
answered_by c events = answer_count is_answer_to c events

-- the call of a caller that the port has begun and not answered
abbrev pub begun_by : ModemSession → ModemLog → (p c : ℕ) → Standing → List Passing
begun_by session log p c q =
    begun_call (λ x. answered_by x (events_on p log)) (λ x step. plain_call (modem_call_at p session x step)) c q

abbrev pub begun_in : ModemSession → ModemLog → (p : ℕ) → List PlainEntry → List Passing
begun_in session log p journal =
    begun_calls (λ c. answered_by c (events_on p log)) (λ c step. plain_call (modem_call_at p session c step))
    (length (names_on p (blocks_in session))) journal

-- all that a port was passed: what it has answered, and what it has begun and not answered
abbrev pub all_passed : ModemSession → ModemLog → (p : ℕ) → List PlainEntry → List Passing
all_passed session log p journal = passings_on session log p ++ begun_in session log p journal

-- the session by the blocks of its callers
abbrev pub by_blocks : ModemSession → BlockSession
by_blocks session = record {
  version = session.version;
  ports = session.ports;
  flips = session.flips;
  phases = block_phases session;
}

-- with the calls that the ports had begun and not answered, behind each caller's others
abbrev pub derived_with : ModemSession → ModemLog → List PortRun → PlainSession
derived_with session log runs = played_session (by_blocks session) (λ p. all_passed session log p (journal_on runs p))

-- ---- a port that was played

-- a port of a session, in the session that was played
abbrev pub port_in : ModemSession → PlainSession → ℕ → List PlainEntry → Port
port_in session played p journal =
    record { number = p; session = session; journal = journal_in p played journal }

-- its log is a run as far as it went, and each of its events and entries is in its turn
pub record IsLogged (played : PlainSession) (port : Port) (log : ModemLog) : Type 0 where
  pub last : ModemState
  pub leads : Leads port (first_state port.number port.session) (logged_on port.number log) last
  pub in_turn : AreInModemTurn played port log

-- .. and the whole one, in which each call of each caller was answered, and each item of the modem blocks is done
pub record IsLoggedWhole (port : Port) (log : ModemLog) : Type 0 where
  pub run : IsModemRun port log
  pub answered : (c : ℕ)
      → next_of run.last c ≡ length (calls_over port.number port.session port.session.phases c)
  pub items : run.last.items ≡ length (items_on port)

-- its run is one of the session that was played, in the order of modem lines, and legal unless its journal is full
pub record IsModemPlayedOn (p : ℕ) (session : ModemSession) (played : PlainSession) (log : ModemLog) (run : PortRun)
    (end : PortEnd) : Type 0 where
  pub played_on : IsPlayedOn p played run end
  pub logged : IsLogged played (port_in session played p run.journal.items) log
  pub seen : length run.journal.items ≢ MOST_ENTRIES → AllSeeAll p played run.journal.items run.line.overruns.items
  pub whole : length run.journal.items ≢ MOST_ENTRIES → IsLoggedWhole (port_in session played p run.journal.items) log

-- each port of a session with modem lines was played, and this is the session that they were played
pub record AreModemsPlayed (session : ModemSession) (log : ModemLog) (runs : List PortRun) (ends : List PortEnd)
    (played : PlainSession) : Type 0 where
  pub runs_of_all : length runs ≡ session.ports
  pub ends_of_all : length ends ≡ session.ports
  pub is_played : played ≡ derived_with session log runs
  pub is_derived : AreNotFull runs → played ≡ derived session log
  pub each : (p : ℕ) (run : PortRun) (end : PortEnd)
      → slice_get runs p ≡ Some run
      → slice_get ends p ≡ Some end
      → IsModemPlayedOn p session played log run end
