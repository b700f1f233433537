use Rattle.std.proofs.Common.{◌≤◌, length}
use Rattle.vt_keyboard.specs.Keying.{ChangesUpTo, EndsKeys}
use Rattle.vt_keyboard.proofs.lines.end_each.Given as goal

abbrev pub invariant-loop-p : goal.invariant-loop-p
invariant-loop-p l = record {
  within : l.p ≤ length l.initial.lines;
  so_far : ChangesUpTo EndsKeys l.p l.initial.lines l.lines l.initial.ends l.ends;
}
