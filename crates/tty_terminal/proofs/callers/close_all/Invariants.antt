use Rattle.std.proofs.Common.{◌≡◌, ◌++◌, map, take, drop}
use Rattle.tty_terminal.specs.Generations.{caller_after_close}
use Rattle.tty_terminal.proofs.callers.close_all.Given as goal

abbrev pub invariant-loop-caller : goal.invariant-loop-caller
invariant-loop-caller l =
    l.callers ≡ map (caller_after_close l.h) (take l.caller-index l.fn.callers) ++ drop l.caller-index l.fn.callers
