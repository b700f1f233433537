use Rattle.std.proofs.Common.{rules}
use Rattle.tty_terminal.proofs.terminals.Terminal.set_modes.Goals as goal

pub returns-then-held-gt0-2-clause-left : goal.returns-then-held-gt0-2-clause-left
returns-then-held-gt0-2-clause-left c = search rules steps 1000000
