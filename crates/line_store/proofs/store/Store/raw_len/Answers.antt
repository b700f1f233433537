use Rattle.std.proofs.Common.{length, min, take, ap, arith}
use Rattle.line_store.specs.Unread.{bytes_of, read_size}
use Rattle.std.proofs.lemmas.List.{length-take}
use Rattle.line_store.proofs.PieceLemmas as pieces
use Rattle.line_store.proofs.store.Store.raw_len.Goals as goal

pub returns : goal.returns
returns c =
    omega (
      arith,
      length-take (read_size c.args.n) (bytes_of c.args.self.now),
      ap length (pieces.bytes_in _ _ _ _ c.self.invariant c.self.view_is),
      c.min.ensures,
      c.min-2.ensures,
      c.len.ensures.len,
    )
