use Rattle.std.proofs.Common.{◌≡◌, ◌*◌, length, take}
use Rattle.hex.specs.Hex.{encode_lower}
use Rattle.session_print.proofs.digits.write_some.Given as goal

abbrev pub invariant-loop-place : goal.invariant-loop-place
invariant-loop-place l = record {
  room : length l.digits ≡ 128;
  so_far : take (2 * l.place) l.digits ≡ encode_lower (take l.place l.bytes);
}
