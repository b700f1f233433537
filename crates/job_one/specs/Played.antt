-- What playing a session of processes comes to.
use Rattle.std.specs.Prelude.{◌≡◌, ◌≢◌, ◌<◌, ◌==◌, ℕ, List, ◌++◌, Bool, false, Some}
use Rattle.std.specs.Prelude.{length, slice_get}
use Rattle.tty_calls.specs.declared.answers.PortEnd.{PortEnd}
use Rattle.tty_calls.specs.declared.journals.PortRun.{PortRun}
use Rattle.tty_calls.specs.Plain.{PlainEntry}
use Rattle.tty_calls.specs.Sessions.{PlainSession}
use Rattle.tty_terminal.specs.Standing.{Standing}
use Rattle.play_base.specs.Played.{IsPlayedOn, IsRunInOrder}
use Rattle.passed_calls.specs.Blocks.{names_on}
use Rattle.passed_calls.specs.Logs.{logged_on}
use Rattle.passed_calls.specs.Derived.{Passing}
use Rattle.job_text.specs.Events.{JobEvent, own, passed, passed_down, sent, JobLog, events_on}
use Rattle.job_text.specs.Sessions.{JobsSession, blocks_in}
use Rattle.job_steps.specs.Derived.{block_phases, job_call_at, plain_call, passings_on, derived}
use Rattle.job_steps.specs.Steps.{Port, JobsState, first_state, next_of, names_of_port, Leads, IsJobsRun}
use Rattle.job_steps.specs.Order.{AreEventsInTurn}
use Rattle.order_laws.specs.Passed.{steps_named}
use Rattle.order_laws.specs.Sessions.{BlockSession, played_session, answer_count, begun_call, begun_calls, journal_in}
use Rattle.order_laws.specs.Sessions.{journal_on, AreNotFull}
use Rattle.tty_base.specs.Sizes.{MOST_ENTRIES}

-- ---- the session that was played, also where a journal is full

-- how many of a caller's calls were answered
abbrev pub is_answer_to : ℕ → JobEvent → Bool
is_answer_to c (own d step answer) = d == c
is_answer_to c (passed d step answer) = d == c
is_answer_to c (passed_down d h) = false
is_answer_to c (sent signal target) = false

abbrev pub answered_by : ℕ → List JobEvent → ℕ
answered_by c events = answer_count is_answer_to c events

-- the call of a caller that the port has begun and not answered
abbrev pub begun_by : JobsSession → JobLog → (p c : ℕ) → Standing → List Passing
begun_by session log p c q =
    begun_call (λ x. answered_by x (events_on p log)) (λ x step. plain_call (job_call_at p session x step)) c q

abbrev pub begun_in : JobsSession → JobLog → (p : ℕ) → List PlainEntry → List Passing
begun_in session log p journal =
    begun_calls (λ c. answered_by c (events_on p log)) (λ c step. plain_call (job_call_at p session c step))
    (length (names_on p (blocks_in session))) journal

-- all that a port was passed: what it has answered, and what it has begun and not answered
abbrev pub all_passed : JobsSession → JobLog → (p : ℕ) → List PlainEntry → List Passing
all_passed session log p journal = passings_on session log p ++ begun_in session log p journal

-- the session by the blocks of its callers
abbrev pub by_blocks : JobsSession → BlockSession
by_blocks session = record {
  version = session.version;
  ports = session.ports;
  flips = session.flips;
  phases = block_phases session;
}

-- with the calls that the ports had begun and not answered, behind each caller's others
abbrev pub derived_with : JobsSession → JobLog → List PortRun → PlainSession
derived_with session log runs = played_session (by_blocks session) (λ p. all_passed session log p (journal_on runs p))

-- ---- a port that was played

-- a port of a session, in the session that was played
abbrev pub port_in : JobsSession → PlainSession → ℕ → List PlainEntry → Port
port_in session played p journal =
    record { number = p; session = session; journal = journal_in p played journal }

-- its log is a run as far as it went, with each event in its turn
pub record IsLogged (played : PlainSession) (port : Port) (log : JobLog) : Type 0 where
  pub last : JobsState
  pub leads : Leads port (first_state port) (logged_on port.number log) last
  pub in_turn : AreEventsInTurn played port (first_state port) (logged_on port.number log)

-- .. and the whole one, in which each call of each caller was answered
pub record IsLoggedWhole (port : Port) (log : JobLog) : Type 0 where
  pub run : IsJobsRun port log
  pub answered : (c : ℕ) → c < length (names_of_port port)
      → next_of run.last c ≡ steps_named port.number (blocks_in port.session) (slice_get (names_of_port port) c)

-- its run is one of the session that was played, in the order of one thread, and legal unless its journal is full
pub record IsJobPlayedOn (p : ℕ) (session : JobsSession) (played : PlainSession) (log : JobLog) (run : PortRun)
    (end : PortEnd) : Type 0 where
  pub played_on : IsPlayedOn p played run end
  pub in_order : IsRunInOrder p played run
  pub logged : IsLogged played (port_in session played p run.journal.items) log
  pub whole : length run.journal.items ≢ MOST_ENTRIES → IsLoggedWhole (port_in session played p run.journal.items) log

-- each port of a session of processes was played, and this is the session that they were played
pub record AreJobsPlayed (session : JobsSession) (log : JobLog) (runs : List PortRun) (ends : List PortEnd)
    (played : PlainSession) : Type 0 where
  pub runs_of_all : length runs ≡ session.ports
  pub ends_of_all : length ends ≡ session.ports
  pub is_played : played ≡ derived_with session log runs
  pub is_derived : AreNotFull runs → played ≡ derived session log
  pub each : (p : ℕ) (run : PortRun) (end : PortEnd)
      → slice_get runs p ≡ Some run
      → slice_get ends p ≡ Some end
      → IsJobPlayedOn p session played log run end
