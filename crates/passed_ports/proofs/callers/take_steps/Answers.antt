use Rattle.std.proofs.Common.{length, arith}
use Rattle.passed_ports.proofs.Noting.{noted_more, all_noted}
use Rattle.passed_ports.proofs.callers.take_steps.Goals as goal

pub loop-caller-init : goal.loop-caller-init
loop-caller-init c = record { each = λ x lt. absurd (omega (arith, lt)) }

pub loop-caller-preserved : goal.loop-caller-preserved
loop-caller-preserved c =
    noted_more c.args.port.now.terminal c.loop-caller.caller c.loop-caller.steps c.set_step.new.steps
    c.next_of-step.result c.loop-caller.invariant (omega (arith, c.loop-caller-test.true))
    c.next_of-step.ensures c.set_step.ensures

pub returns : goal.returns
returns c = all_noted c.args.port.now.terminal c.loop-caller.caller (length c.args.steps.now) c.loop-caller.steps
    c.loop-caller.invariant c.loop-caller.auto.steps (omega (arith, c.loop-caller-test.false))
