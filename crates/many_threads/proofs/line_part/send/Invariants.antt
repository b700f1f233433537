use Rattle.std.proofs.Common.{◌≡◌, ◌+◌, ◌-◌, ◌≤◌, List, ◌++◌, take, length}
use Rattle.std.specs.List.Sorted.{IsNonDecreasing}
use Rattle.tty_base.specs.Sizes.{MOST_SENT}
use Rattle.tty_base.specs.declared.lines.LineStep.{LineStep}
use Rattle.tty_base.specs.Lines.{arrival_count}
use Rattle.uart_line.specs.Received.{received_list}
use Rattle.uart_line.specs.LineState.{HasDone}
use Rattle.uart_line.specs.Offered.{HandsOver}
use Rattle.many_threads.proofs.line_part.send.Given as goal

abbrev pub invariant-loop-step : goal.invariant-loop-step
invariant-loop-step g l = record {
  seat : l.seat ≡ l.initial.seat;
  done : (before : List LineStep)
      → HasDone l.initial.line before
      → HasDone l.line (before ++ take l.step-index l.steps);
  hands_over : (before : List LineStep) → HasDone l.initial.line before
      → HandsOver l.initial.putter.capacity (received_list before) (received_list (before ++ take l.step-index l.steps))
      l.initial.putter.sent l.putter.sent l.initial.putter.heads l.putter.heads
      l.initial.line.report.overruns.items l.line.report.overruns.items;
  ring : l.putter.ring ≡ l.initial.putter.ring;
  capacity : l.putter.capacity ≡ l.initial.putter.capacity;
  rise : IsNonDecreasing l.initial.putter.heads → IsNonDecreasing l.putter.heads;
  room : l.line.most ≡ l.initial.line.most;
  arrived : l.line.report.arrived ≡ l.initial.line.report.arrived + arrival_count (take l.step-index l.steps);
  put : l.line.most ≤ (MOST_SENT - length l.putter.sent) + l.line.handed;
}
