use Rattle.passed_ports.proofs.Noting.{HasNoted}
use Rattle.passed_ports.proofs.callers.take_steps.Given as goal

abbrev pub invariant-loop-caller : goal.invariant-loop-caller
invariant-loop-caller l = HasNoted l.port.terminal l.caller l.steps
