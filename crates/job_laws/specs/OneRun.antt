-- A port of a session of processes that was played to its end.
use Rattle.std.specs.Prelude.{ℕ}
use Rattle.tty_calls.specs.declared.journals.PortRun.{PortRun}
use Rattle.tty_terminal.specs.Terminals.{Terminal}
use Rattle.legal_runs.specs.Legal.{IsLegal}
use Rattle.legal_runs.specs.Order.{IsInOneOrder}
use Rattle.passed_calls.specs.Logs.{logged_on}
use Rattle.job_text.specs.Events.{JobLog}
use Rattle.job_text.specs.Sessions.{JobsSession}
use Rattle.job_steps.specs.Derived.{derived}
use Rattle.job_steps.specs.Steps.{first_state}
use Rattle.job_steps.specs.Order.{AreEventsInTurn}
use Rattle.job_one.specs.Played.{port_in, IsLoggedWhole}

-- The run of a port is legal, and in the order of one thread, for the session that the log derives; and the log on the
-- port is the whole one of job control beside the run's journal, with each event in its turn.
pub record IsPlayedWhole (p : ℕ) (session : JobsSession) (log : JobLog) (run : PortRun) (t : Terminal) : Type 0 where
  pub legal : IsLegal p (derived session log) run t
  pub in_order : IsInOneOrder p (derived session log) run.journal.items run.line.overruns.items
  pub logged : IsLoggedWhole (port_in session (derived session log) p run.journal.items) log
  pub in_turn : AreEventsInTurn (derived session log) (port_in session (derived session log) p run.journal.items)
      (first_state (port_in session (derived session log) p run.journal.items)) (logged_on p log)
