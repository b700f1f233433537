use Rattle.std.proofs.Common.{◌≡◌, ◌+◌, ◌*◌, ◌≤◌, true, length, drop}
use Rattle.tty_base.specs.Sizes.{COLUMNS_OF_BYTE}
use Rattle.flow_control.specs.Output.{has_room, after_send}
use Rattle.n_tty.specs.Posting.{column_past_text, all_posted_bytes}
use Rattle.n_tty.proofs.posting.post.Given as goal

abbrev pub invariant-loop-byte : goal.invariant-loop-byte
invariant-loop-byte l = record {
  column : column_past_text l.modes l.out (all_posted_bytes l.modes l.out (drop l.byte-index l.bytes))
      ≡ column_past_text l.modes l.fn.out (all_posted_bytes l.modes l.fn.out l.bytes);
  wire : after_send l.wire (all_posted_bytes l.modes l.out (drop l.byte-index l.bytes))
      ≡ after_send l.fn.wire (all_posted_bytes l.modes l.fn.out l.bytes);
  room : has_room l.wire (all_posted_bytes l.modes l.out (drop l.byte-index l.bytes)) ≡ true;
  spare : length (all_posted_bytes l.modes l.out (drop l.byte-index l.bytes)) ≤ l.wire.spare;
  bound : l.out ≤ l.fn.out + COLUMNS_OF_BYTE * l.byte-index;
}
