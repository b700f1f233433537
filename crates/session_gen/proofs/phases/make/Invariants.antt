use Rattle.std.proofs.Common.{◌≡◌, ◌+◌, ◌≤◌, replicate}
use Rattle.session_gen.proofs.phases.make.Given as goal

abbrev pub invariant-loop : goal.invariant-loop
invariant-loop l = (l.flips.items ≡ replicate l.counter 4096) × (4 ≤ l.flips.spare + l.counter)
