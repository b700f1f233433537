use Rattle.std.proofs.Common.{◌≡◌, ◌+◌, length, position}
use Rattle.text_lines.proofs.Finds.{later}
use Rattle.text_lines.specs.Lines.{is_blank}
use Rattle.text_lines.proofs.lines.blank_far.Given as goal

abbrev pub invariant-loop-rest : goal.invariant-loop-rest
invariant-loop-rest l = record {
  all : l.passed + length l.rest ≡ length l.line;
  first : position is_blank l.line ≡ later l.passed (position is_blank l.rest);
}

abbrev pub decreases-loop-rest : goal.decreases-loop-rest
decreases-loop-rest l = length l.rest
