use Rattle.std.proofs.Common.{◌≡◌, ◌+◌, ◌*◌, ◌≤◌, length, drop}
use Rattle.tty_base.specs.Sizes.{COLUMNS_OF_BYTE}
use Rattle.n_tty.specs.Posting.{all_posted_bytes}
use Rattle.n_tty.proofs.posting.text_len.Given as goal

abbrev pub invariant-loop-byte : goal.invariant-loop-byte
invariant-loop-byte l = record {
  len : l.count + length (all_posted_bytes l.modes l.ahead (drop l.byte-index l.bytes))
      ≡ length (all_posted_bytes l.modes l.out l.bytes);
  bound : l.ahead ≤ l.out + COLUMNS_OF_BYTE * l.byte-index;
  most : l.count ≤ 8 * l.byte-index;
}
