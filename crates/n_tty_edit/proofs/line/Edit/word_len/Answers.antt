use Rattle.std.proofs.Common.{rules}
use Rattle.n_tty_edit.proofs.line.Edit.word_len.Goals as goal

pub returns : goal.returns
returns c = search rules steps 300000
