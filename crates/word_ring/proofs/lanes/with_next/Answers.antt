use Rattle.word_ring.proofs.Packing.{lay_next}
use Rattle.word_ring.proofs.lanes.with_next.Goals as goal

pub returns : goal.returns
returns c = λ k lt. rw c.from.ensures (lay_next c.args.word c.args.x k c.ranges.word.fits c.ranges.x.fits lt)
