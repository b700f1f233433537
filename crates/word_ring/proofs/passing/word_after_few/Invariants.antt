use Rattle.std.proofs.Common.{◌≡◌, ℕ, ◌+◌, ◌-◌, ◌*◌, ◌/◌, List, ◌++◌, length, take, drop}
use Rattle.word_ring.specs.Lanes.{HasLast, top_lanes}
use Rattle.word_ring.proofs.passing.word_after_few.Given as goal

abbrev pub invariant-loop-at : goal.invariant-loop-at
invariant-loop-at l =
    (front : List ℕ)
    → length front ≡ l.sent
    → HasLast l.fn.word front
    → top_lanes l.word (l.count + l.at - length l.bytes)
    ≡ drop ((l.sent + length l.bytes) / 4 * 4) (front ++ take l.at l.bytes)
