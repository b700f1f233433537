use Rattle.std.proofs.Common.{rules}
use Rattle.tty_terminal.proofs.terminals.Terminal.is_outlived.Goals as goal

pub returns-then-state-gt0 : goal.returns-then-state-gt0
returns-then-state-gt0 c = search rules steps 100000
