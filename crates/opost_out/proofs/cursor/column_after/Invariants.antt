use Rattle.std.proofs.Common.{◌≡◌, ◌≤◌, ◌+◌, ◌*◌, drop}
use Rattle.opost_out.specs.Column.{column_after, posted_text}
use Rattle.opost_out.proofs.cursor.column_after.Given as goal

abbrev pub invariant-loop-byte : goal.invariant-loop-byte
invariant-loop-byte l = record {
  same : column_after l.column (posted_text l.utf8 (drop l.byte-index l.bytes))
      ≡ column_after l.start (posted_text l.utf8 l.bytes);
  bound : l.column ≤ l.start + 8 * l.byte-index;
}
