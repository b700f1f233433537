use Rattle.std.proofs.Common.{rules}
use Rattle.tty_terminal.proofs.terminals.Terminal.note_part.Goals as goal

pub returns : goal.returns
returns c = search rules steps 1000000
