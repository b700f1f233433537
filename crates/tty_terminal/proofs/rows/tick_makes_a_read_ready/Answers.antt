use Rattle.tty_terminal.proofs.ThreeBytes.{timed_runs, timed_no_tick}
use Rattle.tty_terminal.proofs.rows.tick_makes_a_read_ready.Goals as goal

pub returns : goal.returns
returns c = record { run = timed_runs; no_tick = timed_no_tick }
