use Rattle.std.proofs.Common.{List, ◌∷◌, ◌∙◌}
use Rattle.char_lanes.proofs.Lanes.{eight_are}
use Rattle.char_lanes.proofs.numbers_of.Goals as goal

pub returns : goal.returns
returns c =
    (λ i.
    c.number_of.ensures i ∷ c.number_of-2.ensures i ∷ c.number_of-3.ensures i ∷ c.number_of-4.ensures i
    ∷ c.number_of-5.ensures i ∷ c.number_of-6.ensures i ∷ c.number_of-7.ensures i ∷ c.number_of-8.ensures i ∷ List.[])
    ∙ eight_are c.args.eight.now _ c.told-eight
