use Rattle.std.proofs.Common.{◌≡◌, ◌+◌, ◌≤◌, replicate}
use Rattle.session_gen.proofs.phases.no_ticks.Given as goal

abbrev pub invariant-loop : goal.invariant-loop
invariant-loop l = (l.ticks.items ≡ replicate l.counter 0) × (4 ≤ l.ticks.spare + l.counter)
