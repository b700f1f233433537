use Rattle.std.proofs.Common.{◌≡◌, ◌≤◌, ◌-◌, [], length, map, replicate}
use Rattle.vt_report.proofs.operators.no_states.Given as goal

abbrev pub invariant-loop-alloc : goal.invariant-loop-alloc
invariant-loop-alloc l = record {
  none : map (λ told. told.items) l.states.items ≡ replicate (length l.states.items) [];
  within : length l.states.items ≤ l.seats;
}

abbrev pub decreases-loop-alloc : goal.decreases-loop-alloc
decreases-loop-alloc l = l.seats - length l.states.items
