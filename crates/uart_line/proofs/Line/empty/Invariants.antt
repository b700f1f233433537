use Rattle.std.proofs.Common.{◌≡◌, ◌+◌, ◌≤◌, List, ◌++◌, length}
use Rattle.std.specs.List.Sorted.{IsNonDecreasing}
use Rattle.tty_base.specs.declared.characters.Flagged.{Flagged}
use Rattle.uart_line.specs.Handler.{with_mark, Serves}
use Rattle.uart_line.proofs.Line.empty.Given as goal

abbrev pub invariant-loop-reading : goal.invariant-loop-reading
invariant-loop-reading g l = record {
  put_so_far : List Flagged;
  whole : put_so_far ++ with_mark l.self.registers.overrun l.self.registers.fifo
      ≡ with_mark l.initial.self.registers.overrun l.initial.self.registers.fifo;
  serves : Serves (g.P.Put.capacity l.initial.put) l.initial.self l.self put_so_far
      (g.P.Put.sent l.initial.put) (g.P.Put.sent l.put) (g.P.Put.heads l.initial.put) (g.P.Put.heads l.put);
  window : l.self.window ≡ l.initial.self.window;
  lost : l.self.report.fifo_lost ≡ l.initial.self.report.fifo_lost;
  capacity : g.P.Put.capacity l.put ≡ g.P.Put.capacity l.initial.put;
  name : g.P.Put.name l.put ≡ g.P.Put.name l.initial.put;
  room : l.self.most ≤ g.P.Put.numbers_left l.put + l.self.handed;
  rise : IsNonDecreasing (g.P.Put.heads l.initial.put) → IsNonDecreasing (g.P.Put.heads l.put);
}

abbrev pub decreases-loop-reading : goal.decreases-loop-reading
decreases-loop-reading g l = length l.self.registers.fifo
