use Rattle.std.proofs.Common.{◌≤◌, length}
use Rattle.vt_keyboard.specs.Consoles.{PairsUpTo, EndsAt}
use Rattle.vt_keyboard.proofs.console_ends.end_consoles.Given as goal

abbrev pub invariant-loop-p : goal.invariant-loop-p
invariant-loop-p g l = record {
  within : l.p ≤ length l.ports;
  so_far : PairsUpTo (EndsAt l.ports) l.p l.initial.seats l.seats l.initial.ends l.ends;
}
