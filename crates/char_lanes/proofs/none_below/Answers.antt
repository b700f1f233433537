use Rattle.std.proofs.Common.{ltb}
use Rattle.std.proofs.lemmas.Bool.{ltb-false}
use Rattle.char_lanes.proofs.Lanes.{all_weaker, none_passes}
use Rattle.char_lanes.proofs.none_below.Goals as goal

pub returns : goal.returns
returns c none =
    all_weaker _ _ (λ n h. ltb-false n c.args.first h) c.args.numbers
    (none_passes ltb c.args.numbers c.args.first c.fits-numbers.0 none)
