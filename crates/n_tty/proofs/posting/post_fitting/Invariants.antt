use Rattle.std.proofs.Common.{◌≡◌, ◌+◌, ◌-◌, ◌*◌, ◌≤◌, length, take, drop}
use Rattle.tty_base.specs.Sizes.{COLUMNS_OF_BYTE}
use Rattle.flow_control.specs.Output.{after_send}
use Rattle.n_tty.specs.Posting.{column_past_text, all_posted_bytes}
use Rattle.n_tty.specs.Writing.{fitting_count}
use Rattle.n_tty.proofs.posting.post_fitting.Given as goal

-- all bytes so far fit, and were posted
abbrev pub invariant-loop-count : goal.invariant-loop-count
invariant-loop-count l = record {
  within : l.count ≤ length l.bytes;
  count : l.count + fitting_count l.modes l.out l.wire (drop l.count l.bytes)
      ≡ fitting_count l.modes l.fn.out l.fn.wire l.bytes;
  column : l.out ≡ column_past_text l.modes l.fn.out (all_posted_bytes l.modes l.fn.out (take l.count l.bytes));
  wire : l.wire ≡ after_send l.fn.wire (all_posted_bytes l.modes l.fn.out (take l.count l.bytes));
  spare : l.fn.wire.spare ≤ l.wire.spare + 8 * l.count;
  bound : l.out ≤ l.fn.out + COLUMNS_OF_BYTE * l.count;
}

abbrev pub decreases-loop-count : goal.decreases-loop-count
decreases-loop-count l = length l.bytes - l.count
