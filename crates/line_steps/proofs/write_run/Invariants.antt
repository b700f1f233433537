use Rattle.std.proofs.Common.{◌≡◌, ◌++◌, length, map}
use Rattle.line_steps.specs.Steps.{rx_step}
use Rattle.line_steps.proofs.write_run.Given as goal

abbrev pub invariant-loop-rest : goal.invariant-loop-rest
invariant-loop-rest l = l.steps.items ++ map (rx_step l.flag) l.rest ≡ l.fn.steps.items ++ map (rx_step l.flag) l.bytes

abbrev pub decreases-loop-rest : goal.decreases-loop-rest
decreases-loop-rest l = length l.rest
