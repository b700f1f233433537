use Rattle.std.proofs.Common.{rules}
use Rattle.slip_frames.proofs.receiving.Decoder.end_piece.Goals as goal

pub returns-then-matches-clause-result : goal.returns-then-matches-clause-result
returns-then-matches-clause-result c = search rules steps 100000
