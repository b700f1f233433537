use Rattle.std.proofs.Common.{◌≡◌, ◌≤◌, length, take}
use Rattle.ring_rows.proofs.numbers.put_all.Given as goal

abbrev pub invariant-loop : goal.invariant-loop
invariant-loop g l =
    (l.putter.ring ≡ l.fn.putter.ring) × (l.putter.sent ≡ take l.next l.items) × (l.next ≤ length l.items)
