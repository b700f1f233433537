use Rattle.std.proofs.Common.{◌≡◌, ◌++◌, drop, map}
use Rattle.job_text.specs.Sessions.{own_of}
use Rattle.job_ports.proofs.passing.placed_in.Given as goal

abbrev pub invariant-loop-part : goal.invariant-loop-part
invariant-loop-part l = map (λ s. s.now) l.placed.items ++ map own_of (drop l.part-index l.parts) ≡ map own_of l.parts
