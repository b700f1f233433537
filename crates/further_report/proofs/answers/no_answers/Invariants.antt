use Rattle.std.proofs.Common.{◌≡◌, ◌≤◌, ◌-◌, [], length, map, replicate}
use Rattle.further_report.specs.Printing.{bytes_of}
use Rattle.further_report.proofs.answers.no_answers.Given as goal

abbrev pub invariant-loop-alloc : goal.invariant-loop-alloc
invariant-loop-alloc l = record {
  none : map (λ texts. bytes_of texts.items) l.answers.items ≡ replicate (length l.answers.items) [];
  within : length l.answers.items ≤ l.callers;
}

abbrev pub decreases-loop-alloc : goal.decreases-loop-alloc
decreases-loop-alloc l = l.callers - length l.answers.items
