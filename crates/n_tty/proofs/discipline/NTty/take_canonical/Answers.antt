use Rattle.std.proofs.Common.{[], ◌∷◌, length, ap, arith}
use Rattle.line_store.specs.Unread.{End, bytes_of}
use Rattle.n_tty.proofs.StoringLemmas.{length-bytes_of-piece}
use Rattle.n_tty.proofs.discipline.NTty.take_canonical.Goals as goal

pub invariant_of-self-in-Eof : goal.invariant_of-self-in-Eof
invariant_of-self-in-Eof c =
    let inside = c.self-in-Eof.inside in
    let left = ap length c.end_with_eof.ensures.edit in
    record {
      within = omega (
        arith,
        left,
        ap (λ items. length (bytes_of items)) c.end_with_eof.ensures.store,
        length-bytes_of-piece inside.store inside.edit (End ∷ []),
        c.self-in-Eof.invariant.within,
      );
      line = omega (arith, left);
    }
