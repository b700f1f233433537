use Rattle.legal_runs.proofs.OrderRows.{last_first_is_not, both_told_is_not, early_tick_is_not}
use Rattle.legal_runs.proofs.rows.moved_waiters_are_not_in_order.Goals as goal

pub returns : goal.returns
returns c = record { last_first = last_first_is_not; both_told = both_told_is_not; early_tick = early_tick_is_not }
