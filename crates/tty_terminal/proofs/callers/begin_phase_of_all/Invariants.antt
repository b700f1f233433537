use Rattle.std.proofs.Common.{◌≡◌, ◌++◌, map, take, drop}
use Rattle.tty_terminal.specs.Steps.{caller_after_phase}
use Rattle.tty_terminal.proofs.callers.begin_phase_of_all.Given as goal

abbrev pub invariant-loop-caller : goal.invariant-loop-caller
invariant-loop-caller l =
    l.callers ≡ map caller_after_phase (take l.caller-index l.fn.callers) ++ drop l.caller-index l.fn.callers
