use Rattle.std.proofs.Common.{rules}
use Rattle.slip_frames.proofs.receiving.Decoder.keep.Goals as goal

pub push_reserved-requires : goal.push_reserved-requires
push_reserved-requires c = search rules steps 300000

pub invariant_of-self : goal.invariant_of-self
invariant_of-self c = search rules steps 300000
