use Rattle.std.proofs.Common.{◌≡◌, ◌++◌, drop, map}
use Rattle.modem_derived.specs.Blocks.{own_of}
use Rattle.modem_derived.proofs.sessions.placed_of.Given as goal

abbrev pub invariant-loop-part : goal.invariant-loop-part
invariant-loop-part l = map (λ s. s.now) l.placed.items ++ map own_of (drop l.part-index l.parts) ≡ map own_of l.parts
