use Rattle.std.proofs.Common.{rules}
use Rattle.tty_terminal.proofs.terminals.Terminal.close.Goals as goal

pub returns-clause-left : goal.returns-clause-left
returns-clause-left c = search rules steps 1000000
