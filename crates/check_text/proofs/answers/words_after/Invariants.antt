use Rattle.std.proofs.Common.{◌≡◌, length}
use Rattle.text_lines.specs.Lines.{words_of}
use Rattle.check_text.specs.Answers.{words_after}
use Rattle.check_text.proofs.answers.words_after.Given as goal

abbrev pub invariant-loop-expected : goal.invariant-loop-expected
invariant-loop-expected l =
    words_after (words_of l.printed) (words_of l.rest) ≡ words_after (words_of l.text) (words_of l.words)

abbrev pub decreases-loop-expected : goal.decreases-loop-expected
decreases-loop-expected l = length l.printed
