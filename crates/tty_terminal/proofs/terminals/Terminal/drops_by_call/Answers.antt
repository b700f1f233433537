use Rattle.std.proofs.Common.{rules}
use Rattle.tty_terminal.proofs.terminals.Terminal.drops_by_call.Goals as goal

pub returns-in-Vhangup : goal.returns-in-Vhangup
returns-in-Vhangup c = search rules steps 100000
