use Rattle.std.proofs.Common.{◌≡◌, drop}
use Rattle.journal_check.proofs.characters.are_same.Given as goal

abbrev pub invariant-loop-place : goal.invariant-loop-place
invariant-loop-place l = drop l.place l.one ≡ drop l.place l.other → l.one ≡ l.other
