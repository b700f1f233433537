use Rattle.std.proofs.Common.{◌≡◌, ◌≤◌, vec_len}
use Rattle.ring_rows.proofs.numbers.take_all.Given as goal

abbrev pub invariant-loop : goal.invariant-loop
invariant-loop g l = (l.taker.ring ≡ l.fn.taker.ring) × (l.taker.taken ≡ l.all.items) × (vec_len l.all ≤ l.count)
