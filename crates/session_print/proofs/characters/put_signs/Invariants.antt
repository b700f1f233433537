use Rattle.std.proofs.Common.{◌≡◌, ◌*◌, flat_map, length, take}
use Rattle.session_print.specs.Journals.{char_text}
use Rattle.session_print.proofs.characters.put_signs.Given as goal

abbrev pub invariant-loop-place : goal.invariant-loop-place
invariant-loop-place l = record {
  room : length l.signs ≡ 24;
  so_far : take (3 * l.place) l.signs ≡ flat_map char_text (take l.place l.characters);
}
