use Rattle.std.proofs.Common.{◌≡◌, drop, map}
use Rattle.tty_calls.specs.Sessions.{script_of}
use Rattle.further_report.specs.Printing.{learned}
use Rattle.further_report.proofs.names.learn_all.Given as goal

abbrev pub invariant-loop-script : goal.invariant-loop-script
invariant-loop-script l =
    learned l.names l.port (map script_of (drop l.script-index l.scripts))
    ≡ learned l.initial.names l.port (map script_of l.scripts)
