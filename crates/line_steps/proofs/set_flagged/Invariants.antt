use Rattle.std.proofs.Common.{◌≡◌, length, map, take}
use Rattle.line_steps.specs.Steps.{rx_step}
use Rattle.line_steps.proofs.set_flagged.Given as goal

abbrev pub invariant-loop-place : goal.invariant-loop-place
invariant-loop-place l = record {
  room : length l.piece ≡ 64;
  so_far : take l.place l.piece ≡ map (rx_step l.flag) (take l.place l.bytes);
}
