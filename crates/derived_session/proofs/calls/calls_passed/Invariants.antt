use Rattle.std.proofs.Common.{◌≡◌, ◌+◌, ◌-◌, ◌++◌, length, map}
use Rattle.passed_calls.specs.Scripts.{mixed}
use Rattle.derived_session.specs.Steps.{step_of}
use Rattle.derived_session.specs.Slots.{calls_from}
use Rattle.derived_session.specs.Walks.{steps_left}
use Rattle.derived_session.proofs.calls.calls_passed.Given as goal

abbrev pub invariant-loop-at : goal.invariant-loop-at
invariant-loop-at g l = record {
  calls : l.made.items ++ calls_from l.slots l.at.step (steps_left l.calls.items l.placed l.at)
      ≡ calls_from l.slots l.first (map step_of (mixed 0 l.calls.items l.placed));
  step : l.at.step + length (steps_left l.calls.items l.placed l.at)
      ≡ l.first + length (map step_of (mixed 0 l.calls.items l.placed));
}

abbrev pub decreases-loop-at : goal.decreases-loop-at
decreases-loop-at g l = (length l.calls.items - l.at.taken) + (length l.placed - l.at.own)
