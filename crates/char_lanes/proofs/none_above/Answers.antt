use Rattle.std.proofs.Common.{ltb}
use Rattle.std.proofs.lemmas.Bool.{ltb-false}
use Rattle.char_lanes.proofs.Lanes.{all_weaker, none_passes_left}
use Rattle.char_lanes.proofs.none_above.Goals as goal

pub returns : goal.returns
returns c none =
    all_weaker _ _ (λ n h. ltb-false c.args.last n h) c.args.numbers
    (none_passes_left ltb c.args.numbers c.args.last c.fits-numbers.0 none)
