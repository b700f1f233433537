use Rattle.std.proofs.Common.{rules}
use Rattle.slip_frames.proofs.receiving.Decoder.packet.Goals as goal

pub returns-in_default : goal.returns-in_default
returns-in_default c = search rules steps 300000
