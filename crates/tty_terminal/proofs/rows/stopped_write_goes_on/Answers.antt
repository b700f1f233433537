use Rattle.tty_terminal.proofs.ThreeBytes.{stopped_runs, stopped_longer, stopped_rest}
use Rattle.tty_terminal.proofs.rows.stopped_write_goes_on.Goals as goal

pub returns : goal.returns
returns c = record { run = stopped_runs; longer_part = stopped_longer; rest_alone = stopped_rest }
