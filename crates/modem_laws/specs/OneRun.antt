-- A port with modem lines that was played to its end.
use Rattle.std.specs.Prelude.{ℕ}
use Rattle.tty_calls.specs.declared.journals.PortRun.{PortRun}
use Rattle.tty_terminal.specs.Terminals.{Terminal}
use Rattle.legal_runs.specs.Legal.{IsLegal}
use Rattle.modem_text.specs.Events.{ModemLog}
use Rattle.modem_text.specs.Sessions.{ModemSession}
use Rattle.modem_steps.specs.Derived.{derived}
use Rattle.modem_steps.specs.Order.{IsInModemOrder}
use Rattle.modem_one.specs.Played.{port_in, IsLoggedWhole}

-- The run of a port is legal for the session that the log derives; the log on the port is the whole one of modem lines
-- beside the run's journal; and both are in the order of one thread.
pub record IsPlayedWhole (p : ℕ) (session : ModemSession) (log : ModemLog) (run : PortRun) (t : Terminal) : Type 0 where
  pub legal : IsLegal p (derived session log) run t
  pub logged : IsLoggedWhole (port_in session (derived session log) p run.journal.items) log
  pub in_order : IsInModemOrder (port_in session (derived session log) p run.journal.items) log run.line.overruns.items
