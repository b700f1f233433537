use Rattle.std.proofs.Common.{◌≡◌, length}
use Rattle.text_lines.specs.Lines.{words_of}
use Rattle.check_text.specs.Answers.{modes_from, no_flags}
use Rattle.check_text.proofs.answers.modes_from.Given as goal

abbrev pub invariant-loop-word : goal.invariant-loop-word
invariant-loop-word l = modes_from l.modes (words_of l.rest) ≡ modes_from no_flags (words_of l.words)

abbrev pub decreases-loop-word : goal.decreases-loop-word
decreases-loop-word l = length l.rest
