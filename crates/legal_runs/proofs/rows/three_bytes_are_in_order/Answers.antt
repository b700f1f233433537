use Rattle.legal_runs.proofs.OrderRows.{three_bytes_in_order}
use Rattle.legal_runs.proofs.rows.three_bytes_are_in_order.Goals as goal

pub returns : goal.returns
returns c = three_bytes_in_order
