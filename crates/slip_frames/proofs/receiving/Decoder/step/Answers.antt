use Rattle.std.proofs.Common.{rules}
use Rattle.slip_frames.proofs.receiving.Decoder.step.Goals as goal

pub returns-in-Normal-2-clause-result : goal.returns-in-Normal-2-clause-result
returns-in-Normal-2-clause-result c = search rules steps 300000

pub returns-in-Normal-2-clause-after : goal.returns-in-Normal-2-clause-after
returns-in-Normal-2-clause-after c = search rules steps 300000

pub returns-in-Break : goal.returns-in-Break
returns-in-Break c = search rules steps 300000
