use Rattle.std.proofs.Common.{◌≡◌, take}
use Rattle.vt_consoles.specs.Runs.{active_of}
use Rattle.vt_print.proofs.consoles.active_of.Given as goal

abbrev pub invariant-loop-entry : goal.invariant-loop-entry
invariant-loop-entry l = l.active ≡ active_of (take l.entry-index l.entries)
