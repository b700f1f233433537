use Rattle.std.proofs.Common.{◌≡◌, ◌+◌, ◌≤◌, ◌++◌, length}
use Rattle.std.specs.List.{filter_map}
use Rattle.tty_modes.specs.Reading.{word_of as mode_in}
use Rattle.text_lines.specs.Lines.{words_of}
use Rattle.session_text.proofs.calls.add_modes.Given as goal

abbrev pub invariant-loop-word : goal.invariant-loop-word
invariant-loop-word l = record {
  modes : l.modes.items ++ filter_map mode_in (words_of l.rest)
      ≡ l.fn.modes.items ++ filter_map mode_in (words_of l.line);
  counted : l.count + length (words_of l.rest) ≡ length (words_of l.line) + 2;
  few : l.count + length l.rest ≤ length l.line + 2;
}

abbrev pub decreases-loop-word : goal.decreases-loop-word
decreases-loop-word l = length l.rest
