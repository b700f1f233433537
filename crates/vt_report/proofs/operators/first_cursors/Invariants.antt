use Rattle.std.proofs.Common.{◌≡◌, ◌≤◌, ◌-◌, length, replicate}
use Rattle.vt_report.specs.Printing.{first_cursor}
use Rattle.vt_report.proofs.operators.first_cursors.Given as goal

abbrev pub invariant-loop-cursors : goal.invariant-loop-cursors
invariant-loop-cursors l = record {
  none : l.cursors.items ≡ replicate (length l.cursors.items) first_cursor;
  within : length l.cursors.items ≤ l.seats;
}

abbrev pub decreases-loop-cursors : goal.decreases-loop-cursors
decreases-loop-cursors l = l.seats - length l.cursors.items
