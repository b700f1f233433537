use Rattle.std.proofs.Common.{◌≡◌, ◌+◌, length, take, map, ap, subst, arith, length-take}
use Rattle.std.proofs.lemmas.List.{length-map}
use Rattle.tty_base.specs.declared.characters.Flagged.{Flagged}
use Rattle.line_store.specs.Good.{bytes_in}
use Rattle.line_store.specs.Pieces.{IsStore}
use Rattle.line_store.proofs.PieceLemmas as pieces
use Rattle.line_store.proofs.store.Store.append_good.Goals as goal

pub append_good-count-requires : goal.append_good-count-requires
append_good-count-requires c =
    omega (arith, ap length (pieces.bytes_in _ _ _ _ c.self.invariant c.self.view_is), c.requires)

pub invariant_of-self : goal.invariant_of-self
invariant_of-self c =
    let n = c.append_good-count.result in
    let front = take n c.args.chars.now in
    let size : length (bytes_in front) ≡ n =
    omega (
      arith,
      length-map front (λ (x : Flagged). x.byte),
      length-take n c.args.chars.now,
      c.append_good-count.ensures.within,
    ) in
    subst (λ k. IsStore c.self.inside.lengths c.append_good-count.new.self (c.self.inside.unended + k)) size
    (pieces.store_with_more _ _ _ _ c.self.invariant c.self.view_is _ (bytes_in front) c.append_good-count.ensures.added
    (omega (arith, size, c.append_good-count.ensures.within, c.requires)))

pub returns-clause-stored : goal.returns-clause-stored
returns-clause-stored c = pieces.more _ _ _ _ c.self.invariant c.self.view_is _ _ c.append_good-count.ensures.added
