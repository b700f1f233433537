use Rattle.std.proofs.Common.{◌≡◌, ◌-◌, [], slice_index_or}
use Rattle.text_lines.specs.Lines.{words_of}
use Rattle.text_lines.proofs.lines.word_at.Given as goal

abbrev pub invariant-loop : goal.invariant-loop
invariant-loop l =
    slice_index_or (words_of l.line) l.place [] ≡ slice_index_or (words_of l.rest) (l.place - l.counter) []
