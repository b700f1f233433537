use Rattle.port_cell.proofs.Counting.{holds_counts}
use Rattle.port_cell.proofs.cell.Cell.leave.Goals as goal

pub withdraw-requires-clause-counted : goal.withdraw-requires-clause-counted
withdraw-requires-clause-counted g c = holds_counts _ c.requires.held
