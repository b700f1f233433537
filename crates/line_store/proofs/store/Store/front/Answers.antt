use Rattle.std.proofs.Common.{◌≡◌, ◌∙◌, ◌-◌, length, take, sym, ap, arith}
use Rattle.line_store.specs.Unread.{bytes_of, first_piece}
use Rattle.line_store.proofs.ItemLemmas.{take-first_piece}
use Rattle.line_store.proofs.PieceLemmas as pieces
use Rattle.line_store.proofs.store.Store.front.Goals as goal
use Rattle.line_store.proofs.store.Store.front.Goals.{After-front_of}

pub front_of-requires : goal.front_of-requires
front_of-requires c = omega (
  arith,
  ap length (pieces.bytes_in _ _ _ _ c.self.invariant c.self.view_is),
  ap length c.as_slice.ensures.items,
  c.first_len.ensures.within,
)

-- what is lent is the first piece
lent : (c : After-front_of) → c.front_of.result.now ≡ first_piece c.args.self.now
lent c =
    c.front_of.ensures
    ∙ ap (take c.first_len.result)
    (c.as_slice.ensures.items ∙ sym (pieces.bytes_in _ _ _ _ c.self.invariant c.self.view_is))
    ∙ ap (λ k. take k (bytes_of c.args.self.now)) c.first_len.ensures.len
    ∙ take-first_piece c.args.self.now

pub returns-clause-prefix : goal.returns-clause-prefix
returns-clause-prefix c =
    lent c
    ∙ sym (take-first_piece c.args.self.now)
    ∙ ap (λ piece. take (length piece) (bytes_of c.args.self.now)) (sym (lent c))

pub returns-clause-empty : goal.returns-clause-empty
returns-clause-empty c = ((λ none. sym (lent c) ∙ none), (λ none. lent c ∙ none))
