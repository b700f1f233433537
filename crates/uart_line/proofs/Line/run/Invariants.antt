use Rattle.std.proofs.Common.{◌≡◌, ◌⊎◌, ◌+◌, ◌≤◌, List, ◌++◌, take}
use Rattle.std.specs.List.Sorted.{IsNonDecreasing}
use Rattle.tty_base.specs.declared.lines.LineStep.{LineStep}
use Rattle.uart_line.specs.Received.{received_list}
use Rattle.tty_base.specs.Lines.{arrival_count}
use Rattle.uart_line.specs.LineState.{HasDone}
use Rattle.uart_line.specs.Offered.{HandsOver}
use Rattle.uart_line.proofs.Line.run.Given as goal

abbrev pub invariant-loop-step : goal.invariant-loop-step
invariant-loop-step g l = record {
  done : (before : List LineStep)
      → HasDone l.initial.self before
      → HasDone l.self (before ++ take l.step-index l.steps);
  hands_over : (before : List LineStep) → HasDone l.initial.self before
      → HandsOver (g.P.Put.capacity l.initial.put) (received_list before)
      (received_list (before ++ take l.step-index l.steps))
      (g.P.Put.sent l.initial.put) (g.P.Put.sent l.put) (g.P.Put.heads l.initial.put) (g.P.Put.heads l.put)
      l.initial.self.report.overruns.items l.self.report.overruns.items;
  shown : (l.put ≡ l.initial.put) ⊎ g.P.Put.visible l.put;
  capacity : g.P.Put.capacity l.put ≡ g.P.Put.capacity l.initial.put;
  rise : IsNonDecreasing (g.P.Put.heads l.initial.put) → IsNonDecreasing (g.P.Put.heads l.put);
  room : l.self.most ≡ l.initial.self.most;
  arrived : l.self.report.arrived ≡ l.initial.self.report.arrived + arrival_count (take l.step-index l.steps);
  name : g.P.Put.name l.put ≡ g.P.Put.name l.initial.put;
  put : l.self.most ≤ g.P.Put.numbers_left l.put + l.self.handed;
}
