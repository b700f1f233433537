use Rattle.std.proofs.Common.{◌≡◌, ◌≤◌, ◌+◌, ◌++◌, drop, length, map}
use Rattle.derived_session.proofs.copies.lines_of.Given as goal

abbrev pub invariant-loop-line : goal.invariant-loop-line
invariant-loop-line l = record {
  copied : map (λ s. s.items) l.copies.items ++ map (λ s. s.items) (drop l.line-index l.lines)
      ≡ map (λ s. s.items) l.lines;
  room : length l.lines ≤ l.copies.spare + l.line-index;
}
