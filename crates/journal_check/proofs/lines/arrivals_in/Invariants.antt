use Rattle.std.proofs.Common.{◌≡◌, ◌+◌, ◌≤◌, drop}
use Rattle.tty_base.specs.Lines.{arrival_count}
use Rattle.journal_check.proofs.lines.arrivals_in.Given as goal

abbrev pub invariant-loop-step : goal.invariant-loop-step
invariant-loop-step l = record {
  count : l.count + arrival_count (drop l.step-index l.steps) ≡ arrival_count l.steps;
  most : l.count ≤ l.step-index;
}
