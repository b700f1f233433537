use Rattle.std.proofs.Common.{◌≡◌, ℕ, ◌+◌, ◌-◌, ◌%◌, List, [], ◌∷◌, ◌++◌, length, subst, arith}
use Rattle.word_ring.specs.Lanes.{top_lanes}
use Rattle.word_ring.proofs.Passed.{goes_on}
use Rattle.word_ring.proofs.passing.word_after_few.Goals as goal

pub loop-at-preserved : goal.loop-at-preserved
loop-at-preserved c front long last =
    let bytes : List ℕ = c.args.bytes.now in
    let lane : ℕ = (c.args.sent + length bytes) % 4 + c.loop-at.at - length bytes in
    goes_on front bytes c.args.sent c.loop-at.at c.loop-at.word c.with_next-word.result long
    (omega (arith, c.loop-at-test.true))
    (subst (λ (x : ℕ). top_lanes c.with_next-word.result (lane + 1) ≡ top_lanes c.loop-at.word lane ++ x ∷ [])
    c.from.ensures (c.with_next-word.ensures lane (omega (arith, c.loop-at-test.true))))
    (c.loop-at.invariant front long last)
    (omega (arith, c.saturating_sub-first.ensures, c.loop-at.auto.at))
    (omega (arith, c.saturating_sub-first.ensures, c.loop-at.auto.at))
