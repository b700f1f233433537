use Rattle.std.proofs.Common.{◌≡◌, ◌+◌, ◌*◌, ◌-◌, ◌≤◌, length, take, drop}
use Rattle.n_tty.specs.Editing.{echo_of_gone, echo_of_erasing}
use Rattle.n_tty.proofs.erasing.erased_len.Given as goal

abbrev pub invariant-loop-i : goal.invariant-loop-i
invariant-loop-i l = record {
  len : l.count
      + length (echo_of_gone l.modes l.erasing.kind l.erasing.start (take l.i l.edit) (drop l.i l.edit))
      ≡ length (echo_of_erasing l.modes l.erasing l.edit);
  most : l.count ≤ 8 * (l.i - l.erasing.from);
}
