use Rattle.std.proofs.Common.{rules}
use Rattle.n_tty_edit.proofs.line.Edit.kill.Goals as goal

pub returns-clause-line : goal.returns-clause-line
returns-clause-line c = search rules steps 100000
