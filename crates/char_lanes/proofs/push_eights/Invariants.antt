use Rattle.std.proofs.Common.{◌≡◌, ◌≤◌, ◌+◌, ◌-◌, ◌++◌, length, take, vec_len, vec_capacity}
use Rattle.std.specs.List.{AllByRecursion}
use Rattle.char_lanes.specs.Runs.{IsInBounds, bytes_in}
use Rattle.char_lanes.proofs.push_eights.Given as goal

abbrev pub invariant-loop-count : goal.invariant-loop-count
invariant-loop-count l = record {
  within : l.count ≤ length l.chars;
  run : AllByRecursion (IsInBounds l.first l.last l.without) (take l.count l.chars);
  items : l.bytes.items ≡ l.initial.bytes.items ++ bytes_in (take l.count l.chars);
  len : vec_len l.bytes ≡ vec_len l.initial.bytes + l.count;
  capacity : vec_capacity l.initial.bytes ≤ vec_capacity l.bytes;
}

abbrev pub decreases-loop-count : goal.decreases-loop-count
decreases-loop-count l = length l.chars - l.count
