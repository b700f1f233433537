-- The order of one thread for a session of processes: its entries are in the order of the session that was played,
-- and a call that the port never sees is made in its caller's turn.
use Rattle.std.specs.Prelude.{◌≡◌, ℕ, ◌-◌, ◌≤◌, List, [], ◌∷◌, length, take}
use Rattle.tty_base.specs.declared.lines.Overrun.{Overrun}
use Rattle.tty_calls.specs.declared.journals.Who.{Who}
use Rattle.tty_calls.specs.declared.journals.Who.TheVariants.{Caller}
use Rattle.tty_calls.specs.Sessions.{PlainSession, call_at}
use Rattle.legal_runs.specs.Order.{turn, place_after, first_place, IsInOneOrder}
use Rattle.passed_calls.specs.Logs.{logged_on}
use Rattle.job_text.specs.Events.{JobEvent, own, passed, passed_down, sent, JobLog}
use Rattle.job_steps.specs.Derived.{derived}
use Rattle.job_steps.specs.Steps.{Port, JobsState, first_state, after_event, raised_at}

-- whose turn it is after so many entries
abbrev pub turn_at : PlainSession → Port → (at : ℕ) → Who
turn_at played port at =
    turn port.number played
    (place_after (call_at port.number played) (first_place port.number played) (take at port.journal.entries))

-- the signals that the first entries raised were sent on
abbrev pub AreSent : Port → JobsState → (at : ℕ) → Type 0
AreSent port s at = length (raised_at port.journal at) ≤ s.signals

-- What is due, and a signal of the port, come before all else; a call that the port never sees comes where it is its
-- caller's turn. A call that the port answers has its turn in the journal.
abbrev pub IsEventInTurn : PlainSession → Port → JobsState → (at : ℕ) → JobEvent → Type 0
IsEventInTurn played port s at (own c step answer) = AreSent port s at × (turn_at played port at ≡ Caller c)
IsEventInTurn played port s at (passed c step answer) = AreSent port s (at - 1)
IsEventInTurn played port s at (passed_down c h) = Unit {0}
IsEventInTurn played port s at (sent signal target) = Unit {0}

abbrev pub AreEventsInTurn : PlainSession → Port → JobsState → JobLog → Type 0
AreEventsInTurn played port s [] = Unit {0}
AreEventsInTurn played port s (l ∷ log) =
    IsEventInTurn played port s l.at l.event × AreEventsInTurn played port (after_event port s l.at l.event) log

-- a port's journal, with the overruns of its line, and the log beside it
pub record IsInJobsOrder (port : Port) (log : JobLog) (overruns : List Overrun) : Type 0 where
  pub entries : IsInOneOrder port.number (derived port.session log) port.journal.entries overruns
  pub events : AreEventsInTurn (derived port.session log) port (first_state port) (logged_on port.number log)
