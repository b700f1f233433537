use Rattle.std.proofs.Common.{arith}
use Rattle.tty_terminal.specs.Generations.{caller_after_hangup}
use Rattle.tty_terminal.specs.Terminals.{idle_caller}
use Rattle.tty_terminal.proofs.InPlace.{mapped_more}
use Rattle.tty_terminal.proofs.callers.hang_up_all.Goals as goal

pub loop-caller-preserved : goal.loop-caller-preserved
loop-caller-preserved c = mapped_more caller_after_hangup c.args.callers.now c.loop-caller.callers
    c.loop-caller.caller-index idle_caller c.hang_up_under.result (omega arith) c.loop-caller.auto.callers
    c.loop-caller.invariant c.hang_up_under.ensures
