use Rattle.std.proofs.Common.{◌≡◌, ◌+◌, ◌++◌, take, vec_len, vec_capacity}
use Rattle.std.specs.List.{AllByRecursion}
use Rattle.char_lanes.specs.Runs.{IsInBounds, bytes_in}
use Rattle.char_lanes.proofs.push_each.Given as goal

abbrev pub invariant-loop-c : goal.invariant-loop-c
invariant-loop-c l = record {
  all : l.count ≡ l.c-index;
  run : AllByRecursion (IsInBounds l.first l.last l.without) (take l.count l.chars);
  items : l.bytes.items ≡ l.initial.bytes.items ++ bytes_in (take l.count l.chars);
  len : vec_len l.bytes ≡ vec_len l.initial.bytes + l.count;
  capacity : vec_capacity l.bytes ≡ vec_capacity l.initial.bytes;
}
