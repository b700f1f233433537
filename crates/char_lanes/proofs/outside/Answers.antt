use Rattle.std.proofs.Common.{◌+◌, ◌-◌, ◌%◌}
use Rattle.std.proofs.lemmas.Simd.{zip2_splat}
use Rattle.char_lanes.proofs.Between.{outside_mask}
use Rattle.char_lanes.proofs.outside.Goals as goal

pub returns : goal.returns
returns c =
    outside_mask c.args.first c.args.last c.args.lanes _ c.fits-lanes.0
    (zip2_splat (λ a b. (a + (256 - b)) % 256) c.args.lanes 16 c.args.first c.fits-lanes.0)
