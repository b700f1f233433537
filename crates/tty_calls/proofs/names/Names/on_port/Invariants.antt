use Rattle.std.proofs.Common.{◌≡◌, drop, map}
use Rattle.tty_calls.specs.Sessions.{phase_of, scripts_over, names_of}
use Rattle.tty_calls.specs.Naming.{names_on}
use Rattle.tty_calls.proofs.names.Names.on_port.Given as goal

abbrev pub invariant-loop-phase : goal.invariant-loop-phase
invariant-loop-phase l =
    names_on l.names (scripts_over l.port (map phase_of (drop l.phase-index l.phase-items)))
    ≡ names_of (scripts_over l.port (map phase_of l.phase-items))
