use Rattle.std.proofs.Common.{rules}
use Rattle.word_ring.proofs.Joining.{notes}
use Rattle.word_ring.proofs.putter.Putter.note.Goals as goal

pub split_seat-requires : goal.split_seat-requires
split_seat-requires c = (search rules, search rules, notes _ _ _ c.self.invariant.putting.puts)
