use Rattle.std.proofs.Common.{rules}
use Rattle.uart_line.proofs.Line.whole_window.Goals as goal

pub returns-clause-open : goal.returns-clause-open
returns-clause-open c = search rules steps 300000
