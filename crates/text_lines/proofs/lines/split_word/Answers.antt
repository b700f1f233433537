use Rattle.std.proofs.Common.{sym}
use Rattle.std.proofs.lemmas.List.{take_rest}
use Rattle.text_lines.proofs.Splits.{no_word, cut_sliced, whole_sliced}
use Rattle.text_lines.proofs.lines.split_word.Goals as goal

pub returns-in-None-clause-words : goal.returns-in-None-clause-words
returns-in-None-clause-words c = no_word c.args.line.now (sym c.in-None.ensures)

pub returns-in-Some-blank_in-clause-words : goal.returns-in-Some-blank_in-clause-words
returns-in-Some-blank_in-clause-words c =
    cut_sliced c.args.line.now _ c.in-Some.start c.in-Some-blank_in.at (take_rest c.args.line.now c.in-Some.start)
    (sym c.in-Some.ensures) (sym c.in-Some-blank_in.ensures)

pub returns-in-None-blank_in-clause-words : goal.returns-in-None-blank_in-clause-words
returns-in-None-blank_in-clause-words c =
    whole_sliced c.args.line.now _ c.in-Some.start (take_rest c.args.line.now c.in-Some.start) (sym c.in-Some.ensures)
    (sym c.in-None-blank_in.ensures)

pub returns-in-None-clause-shorter : goal.returns-in-None-clause-shorter
returns-in-None-clause-shorter c = no_word c.args.line.now (sym c.in-None.ensures)
