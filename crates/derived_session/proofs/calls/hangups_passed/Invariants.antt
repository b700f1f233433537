use Rattle.std.proofs.Common.{◌≡◌, ◌+◌, ◌-◌, ◌++◌, None, replicate}
use Rattle.derived_session.specs.Slots.{calls_from}
use Rattle.derived_session.proofs.calls.hangups_passed.Given as goal

abbrev pub invariant-loop : goal.invariant-loop
invariant-loop l = record {
  calls : l.made.items ++ calls_from l.slots l.step (replicate (l.count - l.counter) None)
      ≡ calls_from l.slots l.first (replicate l.count None);
  at_step : l.step + (l.count - l.counter) ≡ l.first + l.count;
}
