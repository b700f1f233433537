use Rattle.std.proofs.Common.{eqb}
use Rattle.std.proofs.lemmas.Bool.{eqb-false}
use Rattle.char_lanes.proofs.Lanes.{all_weaker, none_passes}
use Rattle.char_lanes.proofs.none_is.Goals as goal

pub returns : goal.returns
returns c none =
    all_weaker _ _ (λ n h. eqb-false n c.args.other h) c.args.numbers
    (none_passes eqb c.args.numbers c.args.other c.fits-numbers.0 none)
