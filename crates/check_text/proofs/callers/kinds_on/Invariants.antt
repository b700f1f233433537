use Rattle.std.proofs.Common.{◌≡◌, [], length, map, replicate, drop}
use Rattle.tty_calls.specs.Sessions.{phase_of, scripts_over}
use Rattle.check_text.specs.Building.{rows_after}
use Rattle.check_text.proofs.callers.kinds_on.Given as goal

abbrev pub invariant-loop-phase : goal.invariant-loop-phase
invariant-loop-phase l = record {
  each : length l.rows.items ≡ length l.names;
  rows : rows_after l.names (map (λ row. row.items) l.rows.items)
      (scripts_over l.port (map phase_of (drop l.phase-index l.phase-items)))
      ≡ rows_after l.names (replicate (length l.names) []) (scripts_over l.port (map phase_of l.phase-items));
}
