use Rattle.std.proofs.Common.{◌≡◌}
use Rattle.char_lanes.specs.Between.{AreBetween}
use Rattle.char_lanes.proofs.short_between.Given as goal

abbrev pub invariant-loop-byte : goal.invariant-loop-byte
invariant-loop-byte l = record {
  all : l.count ≡ l.byte-index;
  run : AreBetween l.first l.last l.bytes 0 l.count;
}
