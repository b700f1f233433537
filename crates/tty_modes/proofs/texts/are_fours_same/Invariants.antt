use Rattle.std.proofs.Common.{◌-◌, ◌≡◌, take}
use Rattle.tty_modes.proofs.texts.are_fours_same.Given as goal

abbrev pub invariant-loop-place : goal.invariant-loop-place
invariant-loop-place l = take l.place l.word ≡ take l.place l.text

abbrev pub decreases-loop-place : goal.decreases-loop-place
decreases-loop-place l = l.last - l.place
