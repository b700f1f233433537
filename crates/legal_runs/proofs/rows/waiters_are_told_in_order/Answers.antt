use Rattle.legal_runs.proofs.OrderRows.{waiters_in_order}
use Rattle.legal_runs.proofs.rows.waiters_are_told_in_order.Goals as goal

pub returns : goal.returns
returns c = waiters_in_order
