use Rattle.tty_terminal.proofs.ThreeBytes.{idle_runs, idle_early, end_early}
use Rattle.tty_terminal.proofs.rows.idle_where_nothing_can_come.Goals as goal

pub returns : goal.returns
returns c = record { run = idle_runs; too_early = idle_early; no_end = end_early }
