use Rattle.std.proofs.Common.{arith}
use Rattle.word_ring.proofs.Packing.{joined_fits, lay_joined}
use Rattle.word_ring.proofs.lanes.joined.Goals as goal

pub overflow_add-result : goal.overflow_add-result
overflow_add-result c =
    omega (arith, joined_fits _ _ c.ranges.word.fits c.ranges.next.fits c.args.k c.requires.0 c.requires.1)

pub returns : goal.returns
returns c = lay_joined _ _ c.ranges.word.fits c.ranges.next.fits c.args.k c.requires.0 c.requires.1
