use Rattle.port_core.proofs.flips.drop_rest.Goals as goal
use Rattle.std.proofs.Common.{subst, arith}
use Rattle.std.proofs.lemmas.Grind.{common_steps}
use Rattle.tty_base.specs.declared.characters.Flagged.{Flagged}
use Rattle.word_ring.specs.Ends.{TakerState}
use Rattle.flip_buffer.specs.Drops.{Releases}

pub returns-clause-released : goal.returns-clause-released
returns-clause-released c =
    let r =
    subst (λ (f : TakerState Flagged). Releases f c.drop_all.new.self) c.end.ensures.same c.drop_all.ensures.released in
    record { heads = r.heads; adds = r.adds; above = r.above; below = r.below }

pub returns-clause-all : goal.returns-clause-all
returns-clause-all c = grind (arith, common_steps) steps 1000000
