use Rattle.std.proofs.Common.{◌≤◌, length, IfSome, ◌-◌}
use Rattle.tty_base.proofs.Told.{IsReadOf}
use Rattle.tty_base.proofs.sources.read_all.Given as goal

abbrev pub invariant-loop-most : goal.invariant-loop-most
invariant-loop-most g l =
    record {
      count : g.S.Source.faults l.fn.source ≤ g.S.Source.faults l.source;
      short : length l.text.items ≤ l.limit;
      read : IfSome (g.S.Source.left l.fn.source) (λ bytes. IsReadOf l.text.items bytes (g.S.Source.left l.source));
    }

abbrev pub decreases-loop-most : goal.decreases-loop-most
decreases-loop-most g l = l.limit - length l.text.items
