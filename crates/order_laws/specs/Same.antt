-- Two ports that were played the same, with what was logged beside them.
use Rattle.std.specs.Prelude.{◌≡◌, ℕ, List}
use Rattle.tty_calls.specs.declared.journals.PortRun.{PortRun}
use Rattle.tty_terminal.specs.Terminals.{Terminal}
use Rattle.order_laws.specs.Lost.{IsSameRun}
use Rattle.passed_calls.specs.declared.logs.Logged.{Logged}
use Rattle.passed_calls.specs.Logs.{logged_on}

-- the same journal and line report, the same terminal at the end, and the same log on the port
pub record IsSamePort {E : Type 0} (p : ℕ) (log other : List (Logged E)) (run again : PortRun) (t u : Terminal)
    : Type 0 where
  pub run_same : IsSameRun run again
  pub terminal : t ≡ u
  pub log_same : logged_on p log ≡ logged_on p other
