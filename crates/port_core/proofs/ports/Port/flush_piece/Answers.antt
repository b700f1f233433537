use Rattle.std.proofs.Common.{rules}
use Rattle.port_core.proofs.ports.Port.flush_piece.Goals as goal

pub hand_piece-requires-clause-free : goal.hand_piece-requires-clause-free
hand_piece-requires-clause-free c = search rules steps 100000
