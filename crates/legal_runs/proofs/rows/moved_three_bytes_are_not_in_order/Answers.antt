use Rattle.legal_runs.proofs.OrderRows.{late_flush_is_not, early_clock_is_not}
use Rattle.legal_runs.proofs.rows.moved_three_bytes_are_not_in_order.Goals as goal

pub returns : goal.returns
returns c = record { late_flush = late_flush_is_not; early_clock = early_clock_is_not }
