use Rattle.std.proofs.Common.{◌≡◌, take}
use Rattle.std.specs.List.{list_any}
use Rattle.text_lines.specs.Lines.{is_low}
use Rattle.text_lines.proofs.lines.has_low.Given as goal

abbrev pub invariant-loop-byte : goal.invariant-loop-byte
invariant-loop-byte l = l.found ≡ list_any is_low (take l.byte-index l.piece)
