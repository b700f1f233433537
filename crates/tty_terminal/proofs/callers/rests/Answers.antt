use Rattle.std.proofs.Common.{rules}
use Rattle.tty_terminal.proofs.callers.rests.Goals as goal

pub returns-else-caller : goal.returns-else-caller
returns-else-caller c = search rules steps 100000
