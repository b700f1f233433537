use Rattle.std.proofs.Common.{arith}
use Rattle.tty_terminal.specs.Steps.{caller_after_phase}
use Rattle.tty_terminal.specs.Terminals.{idle_caller}
use Rattle.tty_terminal.proofs.InPlace.{mapped_more}
use Rattle.tty_terminal.proofs.callers.begin_phase_of_all.Goals as goal

pub loop-caller-preserved : goal.loop-caller-preserved
loop-caller-preserved c = mapped_more caller_after_phase c.args.callers.now c.loop-caller.callers
    c.loop-caller.caller-index idle_caller c.next_phase_of.result (omega arith) c.loop-caller.auto.callers
    c.loop-caller.invariant c.next_phase_of.ensures
