use Rattle.std.proofs.Common.{◌-◌, ◌≤◌, length}
use Rattle.char_lanes.specs.Between.{AreBetween}
use Rattle.char_lanes.proofs.bytes_between.Given as goal

abbrev pub invariant-loop-count : goal.invariant-loop-count
invariant-loop-count l = record {
  within : l.count ≤ length l.bytes;
  run : AreBetween l.first l.last l.bytes 0 l.count;
}

abbrev pub decreases-loop-count : goal.decreases-loop-count
decreases-loop-count l = length l.bytes - l.count
