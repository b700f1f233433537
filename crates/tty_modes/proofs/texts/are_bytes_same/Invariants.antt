use Rattle.std.proofs.Common.{◌≡◌, bytes_eq, drop}
use Rattle.tty_modes.proofs.texts.are_bytes_same.Given as goal

abbrev pub invariant-loop-place : goal.invariant-loop-place
invariant-loop-place l = bytes_eq (drop l.place l.word) (drop l.place l.text) ≡ bytes_eq l.word l.text
