use Rattle.std.proofs.Common.{◌≡◌, ◌++◌, map, take}
use Rattle.check_text.specs.Callers.{answer_kind}
use Rattle.check_text.proofs.callers.add_kinds.Given as goal

abbrev pub invariant-loop-place : goal.invariant-loop-place
invariant-loop-place l = l.row.items ≡ l.initial.row.items ++ map answer_kind (take l.place l.calls.items)
