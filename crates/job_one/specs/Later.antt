-- The log of a port whose journal still grows: what is said of it holds of each journal that the port can come to.
use Rattle.std.specs.Prelude.{◌≡◌, ◌≤◌, ◌+◌, ℕ, length}
use Rattle.port_core.specs.Ports.{PortValue}
use Rattle.passed_calls.specs.Journals.{Journal}
use Rattle.order_laws.specs.Later.{IsLater}
use Rattle.passed_calls.specs.Logs.{logged_on}
use Rattle.job_text.specs.Events.{JobLog}
use Rattle.job_text.specs.Sessions.{JobsSession}
use Rattle.job_steps.specs.Steps.{Port, JobsState, first_state, next_call, first_place, WentToPort, Leads}

abbrev pub port_with : ℕ → JobsSession → Journal → Port
port_with p session journal = record { number = p; session = session; journal = journal }

-- the log so far, and where it leads, whatever comes
pub record HasLogged (p : ℕ) (session : JobsSession) (log : JobLog) (v : PortValue) (u : JobsState) : Type 0 where
  pub leads : (journal : Journal)
      → IsLater v journal
      → Leads (port_with p session journal) (first_state (port_with p session journal)) (logged_on p log) u
  pub at : u.now.at ≤ length v.journal

-- the call that a caller has begun went on to the port as it began, and an entry of it stands in the journal
pub record HasGoneOn (p : ℕ) (session : JobsSession) (v : PortValue) (u : JobsState) (c step : ℕ) : Type 0 where
  pub place : ℕ
  pub is_first : (journal : Journal) → IsLater v journal → first_place journal c step ≡ place
  pub within : place + 1 ≤ length v.journal
  pub goes_on : (journal : Journal)
      → IsLater v journal
      → WentToPort (port_with p session journal) u place c (next_call (port_with p session journal) u c)
