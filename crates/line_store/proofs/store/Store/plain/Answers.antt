use Rattle.std.proofs.Common.{◌∙◌, map, sym, ap}
use Rattle.line_store.specs.Unread.{Byte}
use Rattle.line_store.specs.Pieces.{items_of}
use Rattle.line_store.proofs.PieceLemmas as pieces
use Rattle.line_store.proofs.store.Store.plain.Goals as goal

pub returns : goal.returns
returns c =
    ap (λ ns. items_of ns c.self.inside.bytes) c.clear.ensures
    ∙ ap (map Byte) (sym (pieces.bytes_in _ _ _ _ c.self.invariant c.self.view_is))
