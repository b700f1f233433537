use Rattle.tty_terminal.proofs.ThreeBytes.{other_bytes, old_generation, no_flush, no_new_generation}
use Rattle.tty_terminal.proofs.rows.changed_three_bytes_is_no_run.Goals as goal

pub returns : goal.returns
returns c = record {
  other_bytes = other_bytes;
  old_generation = old_generation;
  no_flush = no_flush;
  no_new_generation = no_new_generation;
}
