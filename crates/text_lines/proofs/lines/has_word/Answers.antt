use Rattle.std.proofs.Common.{◌∙◌, sym}
use Rattle.text_lines.proofs.Splits.{word_told}
use Rattle.text_lines.proofs.lines.has_word.Goals as goal

pub returns : goal.returns
returns c = c.is_some.ensures ∙ word_told c.args.line.now c.word_in.result (sym c.word_in.ensures)
