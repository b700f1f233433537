use Rattle.std.proofs.Common.{◌≡◌, ◌+◌, ◌-◌, ◌*◌, ◌≤◌, ℕ, List, true, length, take, drop}
use Rattle.tty_modes.specs.Settings.{Settings}
use Rattle.tty_base.specs.Sizes.{COLUMNS_OF_BYTE}
use Rattle.flow_control.specs.Output.{has_room, after_send}
use Rattle.n_tty.specs.declared.erasing.Erasing.{Erasing}
use Rattle.n_tty.specs.Editing.{echo_of_gone, echo_of_erasing}
use Rattle.n_tty.specs.Posting.{column_past_text}
use Rattle.n_tty.proofs.erasing.post_erased.Given as goal

-- the echo of what is still to be erased of a line before a place
abbrev left : Settings → Erasing → List ℕ → ℕ → List ℕ
left modes e line i = echo_of_gone modes e.kind e.start (take e.from line) (drop e.from (take i line))

-- with what was echoed it is the echo of all
abbrev pub invariant-loop-i : goal.invariant-loop-i
invariant-loop-i l = record {
  from : l.erasing.from ≤ l.i;
  within : l.i ≤ length l.edit;
  column : column_past_text l.modes l.out (left l.modes l.erasing l.edit l.i)
      ≡ column_past_text l.modes l.fn.out (echo_of_erasing l.modes l.erasing l.edit);
  wire : after_send l.wire (left l.modes l.erasing l.edit l.i)
      ≡ after_send l.fn.wire (echo_of_erasing l.modes l.erasing l.edit);
  room : has_room l.wire (left l.modes l.erasing l.edit l.i) ≡ true;
  spare : 8 * (l.i - l.erasing.from) ≤ l.wire.spare;
  bound : l.out ≤ l.fn.out + COLUMNS_OF_BYTE * (length l.edit - l.i);
}

abbrev pub decreases-loop-i : goal.decreases-loop-i
decreases-loop-i l = l.i
