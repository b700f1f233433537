use Rattle.std.proofs.Common.{length, ◌-◌, ◌≡◌, Some, ◌++◌, ◌≤◌, take, IfSome}
use Rattle.tty_base.proofs.sinks.write_all.Given as goal

abbrev pub invariant-loop-at : goal.invariant-loop-at
invariant-loop-at g l =
    let given = g.K.Sink.given in
    record {
      count : g.K.Sink.faults l.fn.sink ≤ g.K.Sink.faults l.sink;
      within : l.at ≤ length l.bytes;
      written : IfSome (given l.fn.sink) (λ before. given l.sink ≡ Some (before ++ take l.at l.bytes));
    }

abbrev pub decreases-loop-at : goal.decreases-loop-at
decreases-loop-at g l = length l.bytes - l.at
