use Rattle.std.proofs.Common.{arith}
use Rattle.std.proofs.lemmas.Grind.{common_steps}
use Rattle.n_tty_edit.proofs.widths.tab_width.Goals as goal

pub returns-clause-width : goal.returns-clause-width
returns-clause-width c = grind (arith, common_steps) steps 1000000
