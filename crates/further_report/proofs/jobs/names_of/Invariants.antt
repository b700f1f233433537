use Rattle.std.proofs.Common.{◌≡◌, [], drop, map}
use Rattle.tty_calls.specs.Sessions.{phase_of}
use Rattle.further_report.specs.Printing.{learned_over}
use Rattle.further_report.proofs.jobs.names_of.Given as goal

abbrev pub invariant-loop-phase : goal.invariant-loop-phase
invariant-loop-phase l =
    learned_over l.names l.port (map phase_of (drop l.phase-index l.phases))
    ≡ learned_over [] l.port (map phase_of l.phases)
