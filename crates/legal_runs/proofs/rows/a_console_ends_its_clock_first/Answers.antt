use Rattle.legal_runs.proofs.OrderRows.{early_clock_of_console, late_clock_of_console_is_not}
use Rattle.legal_runs.proofs.rows.a_console_ends_its_clock_first.Goals as goal

pub returns-clause-early_clock : goal.returns-clause-early_clock
returns-clause-early_clock c = early_clock_of_console

pub returns-clause-late_clock : goal.returns-clause-late_clock
returns-clause-late_clock c = late_clock_of_console_is_not
