use Rattle.std.proofs.Common.{◌≢◌, take}
use Rattle.std.specs.List.{AllByRecursion}
use Rattle.char_lanes.proofs.have_none_of.Given as goal

abbrev pub invariant-loop-other : goal.invariant-loop-other
invariant-loop-other l = AllByRecursion (λ x. AllByRecursion (λ n. n ≢ x) l.numbers) (take l.other-index l.without)
