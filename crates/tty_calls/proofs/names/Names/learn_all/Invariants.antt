use Rattle.std.proofs.Common.{◌≡◌, drop}
use Rattle.tty_calls.specs.Naming.{names_after}
use Rattle.tty_calls.proofs.names.Names.learn_all.Given as goal

abbrev pub invariant-loop-script : goal.invariant-loop-script
invariant-loop-script l =
    names_after l.self l.port (drop l.script-index l.scripts) ≡ names_after l.initial.self l.port l.scripts
