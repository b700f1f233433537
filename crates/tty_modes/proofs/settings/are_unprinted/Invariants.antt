use Rattle.std.proofs.Common.{◌≡◌, drop}
use Rattle.tty_modes.specs.Printed.{are_unprinted}
use Rattle.tty_modes.proofs.settings.are_unprinted.Given as goal

-- those that are left tell
abbrev pub invariant-loop-c : goal.invariant-loop-c
invariant-loop-c l = are_unprinted l.characters ≡ are_unprinted (drop l.c-index l.characters)
