use Rattle.std.proofs.Common.{arith}
use Rattle.tty_terminal.specs.Generations.{caller_after_close}
use Rattle.tty_terminal.specs.Terminals.{idle_caller}
use Rattle.tty_terminal.proofs.InPlace.{mapped_more}
use Rattle.tty_terminal.proofs.callers.close_all.Goals as goal

pub loop-caller-preserved : goal.loop-caller-preserved
loop-caller-preserved c = mapped_more (caller_after_close c.args.h) c.args.callers.now c.loop-caller.callers
    c.loop-caller.caller-index idle_caller c.close_under.result (omega arith) c.loop-caller.auto.callers
    c.loop-caller.invariant c.close_under.ensures
