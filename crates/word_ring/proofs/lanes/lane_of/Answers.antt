use Rattle.word_ring.proofs.Packing.{lane_shift}
use Rattle.word_ring.proofs.lanes.lane_of.Goals as goal

pub returns : goal.returns
returns c = lane_shift c.args.word c.args.l c.requires
