use Rattle.std.proofs.Common.{rules}
use Rattle.tty_terminal.proofs.terminals.Terminal.fresh_kind.Goals as goal

pub returns-then-disc_number-number : goal.returns-then-disc_number-number
returns-then-disc_number-number c = search rules steps 100000
