use Rattle.std.proofs.Common.{◌+◌, ap, sym, ◌∙◌, arith, length, take, ◌∷◌}
use Rattle.std.proofs.lemmas.List.{take_rest, drop_all}
use Rattle.text_lines.specs.Lines.{lines_of}
use Rattle.text_lines.proofs.Splits.{line_cut, line_whole}
use Rattle.text_lines.proofs.lines.split_line.Goals as goal

pub returns-in-Some-clause-lines : goal.returns-in-Some-clause-lines
returns-in-Some-clause-lines c =
    let text = c.args.text.now in
    let at = c.in-Some.at in
    line_cut text at (sym c.in-Some.ensures) ∙ ap (λ xs. take at text ∷ lines_of xs) (sym (take_rest text (at + 1)))

pub returns-in-None-clause-lines : goal.returns-in-None-clause-lines
returns-in-None-clause-lines c =
    let text = c.args.text.now in
    line_whole text c.if-is_empty.ensures (sym c.in-None.ensures)
    ∙ ap (λ xs. text ∷ lines_of xs) (sym (take_rest text (length text) ∙ drop_all (length text) text (omega arith)))
