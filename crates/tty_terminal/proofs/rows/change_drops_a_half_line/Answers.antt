use Rattle.tty_terminal.proofs.ThreeBytes.{half_line_drops, half_line_stays}
use Rattle.tty_terminal.proofs.rows.change_drops_a_half_line.Goals as goal

pub returns : goal.returns
returns c = record { run = half_line_drops; no_run = half_line_stays }
