use Rattle.std.proofs.Common.{get_or, ◌∙◌, length, sym, ap, arith}
use Rattle.line_store.specs.Unread.{first_piece}
use Rattle.line_store.proofs.ItemLemmas.{length-first_piece}
use Rattle.line_store.proofs.PieceLemmas as pieces
use Rattle.line_store.proofs.store.Store.first_len.Goals as goal

pub returns-in-empty-clause-len : goal.returns-in-empty-clause-len
returns-in-empty-clause-len c =
    c.len.ensures.len
    ∙ sym (pieces.first_in-none _ _ _ _ c.self.invariant c.self.view_is
    (omega (arith, ap length c.as_slice.ensures.items, c.in-empty.len_below)))

pub returns-in-empty-clause-within : goal.returns-in-empty-clause-within
returns-in-empty-clause-within c = omega (arith, ap length (pieces.bytes_in _ _ _ _ c.self.invariant c.self.view_is))

pub returns-in-len1-up-clause-len : goal.returns-in-len1-up-clause-len
returns-in-len1-up-clause-len c =
    c.from.ensures ∙ ap (λ ns. get_or ns 0 0) c.as_slice.ensures.items
    ∙ sym (pieces.first_in _ _ _ _ c.self.invariant c.self.view_is
    (omega (arith, ap length c.as_slice.ensures.items, c.in-len1-up.len_at_least)))

pub returns-in-len1-up-clause-within : goal.returns-in-len1-up-clause-within
returns-in-len1-up-clause-within c = omega (arith, returns-in-len1-up-clause-len c, length-first_piece c.args.self.now)
