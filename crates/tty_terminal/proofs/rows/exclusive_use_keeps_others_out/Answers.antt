use Rattle.tty_terminal.proofs.ThreeBytes.{exclusive_runs, exclusive_admitted}
use Rattle.tty_terminal.proofs.rows.exclusive_use_keeps_others_out.Goals as goal

pub returns : goal.returns
returns c = record { run = exclusive_runs; admitted = exclusive_admitted }
