use Rattle.std.proofs.Common.{rules}
use Rattle.n_tty_edit.proofs.widths.plain_width.Goals as goal

pub returns-then-has-3-clause-width : goal.returns-then-has-3-clause-width
returns-then-has-3-clause-width c = search rules steps 1500000
