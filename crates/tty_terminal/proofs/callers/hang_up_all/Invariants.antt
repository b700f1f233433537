use Rattle.std.proofs.Common.{◌≡◌, ◌++◌, map, take, drop}
use Rattle.tty_terminal.specs.Generations.{caller_after_hangup}
use Rattle.tty_terminal.proofs.callers.hang_up_all.Given as goal

abbrev pub invariant-loop-caller : goal.invariant-loop-caller
invariant-loop-caller l =
    l.callers ≡ map caller_after_hangup (take l.caller-index l.fn.callers) ++ drop l.caller-index l.fn.callers
