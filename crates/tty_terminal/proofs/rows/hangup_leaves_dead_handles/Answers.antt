use Rattle.tty_terminal.proofs.ThreeBytes.{hangup_runs, hangup_no_input, hangup_no_write, hangup_no_last_close}
use Rattle.tty_terminal.proofs.rows.hangup_leaves_dead_handles.Goals as goal

pub returns : goal.returns
returns c = record {
  run = hangup_runs;
  no_input = hangup_no_input;
  no_write = hangup_no_write;
  no_last_close = hangup_no_last_close;
}
