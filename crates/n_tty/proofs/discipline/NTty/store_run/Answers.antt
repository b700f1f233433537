use Rattle.std.proofs.Common.{length, take, ap, arith, length-take}
use Rattle.std.proofs.lemmas.List.{length-map}
use Rattle.tty_base.specs.declared.characters.Flagged.{Flagged}
use Rattle.line_store.specs.Unread.{bytes_of}
use Rattle.line_store.specs.Good.{bytes_in}
use Rattle.n_tty.specs.States.{unread_count}
use Rattle.n_tty.proofs.StoringLemmas.{length-bytes_of-plain}
use Rattle.n_tty.proofs.discipline.NTty.store_run.Goals as goal

pub invariant_of-self : goal.invariant_of-self
invariant_of-self c =
    let front = take c.append_good-count.result c.args.chars.now in
    record {
      within = omega (
        arith,
        ap (λ items. length (bytes_of items)) c.append_good-count.ensures.stored,
        length-bytes_of-plain c.self.inside.store (bytes_in front),
        length-map front (λ (x : Flagged). x.byte),
        length-take c.append_good-count.result c.args.chars.now,
        ap unread_count c.self.view_is,
        c.append_good-count.ensures.within,
        c.requires.room,
      );
      line = c.self.invariant.line;
    }
