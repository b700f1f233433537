use Rattle.std.proofs.Common.{◌≡◌, ◌≤◌, length, take}
use Rattle.vt_print.specs.Consoles.{trimmed}
use Rattle.vt_print.proofs.rows.trimmed.Given as goal

abbrev pub invariant-loop-count : goal.invariant-loop-count
invariant-loop-count l = record { within : l.count ≤ length l.row; same : trimmed l.row ≡ trimmed (take l.count l.row) }

abbrev pub decreases-loop-count : goal.decreases-loop-count
decreases-loop-count l = l.count
