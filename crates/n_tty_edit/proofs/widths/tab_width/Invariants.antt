use Rattle.std.proofs.Common.{◌≡◌, ◌+◌, ◌*◌, ◌≤◌, length, take}
use Rattle.n_tty_edit.specs.Width.{width_since_tab}
use Rattle.n_tty_edit.proofs.widths.tab_width.Given as goal

-- no TAB stands from the place on, so the widths from there add up
abbrev pub invariant-loop-i : goal.invariant-loop-i
invariant-loop-i l = record {
  within : l.i ≤ length l.before;
  small : l.column + 2 * l.i ≤ 2 * length l.before;
  rest : width_since_tab l.modes l.start l.before ≡ width_since_tab l.modes l.start (take l.i l.before) + l.column;
}

abbrev pub decreases-loop-i : goal.decreases-loop-i
decreases-loop-i l = l.i
