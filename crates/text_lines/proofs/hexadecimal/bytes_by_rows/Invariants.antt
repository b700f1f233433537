use Rattle.std.proofs.Common.{◌≡◌, ◌++◌, ◌%◌, length, true}
use Rattle.std.specs.List.{list_all}
use Rattle.hex.specs.Hex.{is_hex_digit}
use Rattle.text_lines.specs.Values.{bytes_of}
use Rattle.text_lines.proofs.hexadecimal.bytes_by_rows.Given as goal

abbrev pub invariant-loop-rest : goal.invariant-loop-rest
invariant-loop-rest l = record {
  digits : list_all is_hex_digit l.rest ≡ true;
  even : length l.rest % 2 ≡ 0;
  left : l.bytes.items ++ bytes_of l.rest ≡ bytes_of l.word;
}

abbrev pub decreases-loop-rest : goal.decreases-loop-rest
decreases-loop-rest l = length l.rest
