use Rattle.std.proofs.Common.{rules}
use Rattle.uart_line.proofs.Line.runs_handler.Goals as goal

pub returns-then-pending-clause-runs : goal.returns-then-pending-clause-runs
returns-then-pending-clause-runs c = search rules steps 300000
