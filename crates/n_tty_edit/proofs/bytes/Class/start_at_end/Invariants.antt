use Rattle.std.proofs.Common.{◌≡◌, ◌+◌, ◌≤◌, length, take}
use Rattle.std.specs.List.{suffix_len}
use Rattle.n_tty_edit.specs.Bytes.{is_of}
use Rattle.n_tty_edit.proofs.bytes.Class.start_at_end.Given as goal

abbrev pub invariant-loop-start : goal.invariant-loop-start
invariant-loop-start l =
    (l.start ≤ length l.line)
    × (l.start + suffix_len (is_of l.self) l.line ≡ length l.line + suffix_len (is_of l.self) (take l.start l.line))

abbrev pub decreases-loop-start : goal.decreases-loop-start
decreases-loop-start l = l.start
