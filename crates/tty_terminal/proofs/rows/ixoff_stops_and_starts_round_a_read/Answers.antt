use Rattle.tty_terminal.proofs.ThreeBytes.{filling_runs, filling_short}
use Rattle.tty_terminal.proofs.rows.ixoff_stops_and_starts_round_a_read.Goals as goal

pub returns : goal.returns
returns c = record { run = filling_runs; no_last_byte = filling_short }
