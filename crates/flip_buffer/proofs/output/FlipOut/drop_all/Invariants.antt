use Rattle.std.proofs.Common.{◌≡◌, ◌+◌, ◌++◌, length}
use Rattle.flip_buffer.proofs.output.FlipOut.drop_all.Given as goal

abbrev pub invariant-loop : goal.invariant-loop
invariant-loop l = record {
  same : l.self ≡ record l.initial.self { peeked = l.self.peeked };
  items : l.out.items ≡ l.initial.out.items ++ l.self.peeked;
  count : length l.self.peeked ≡ l.counter;
  spare : l.out.spare + l.counter ≡ l.initial.out.spare;
}
