use Rattle.std.proofs.Common.{rules}
use Rattle.n_tty_edit.proofs.line.Edit.erase_start.Goals as goal

pub returns-else-start-eq0 : goal.returns-else-start-eq0
returns-else-start-eq0 c = search rules steps 300000
