use Rattle.std.proofs.Common.{◌∙◌, length, sym, ap}
use Rattle.line_store.proofs.PieceLemmas as pieces
use Rattle.line_store.proofs.store.Store.len.Goals as goal

pub returns-clause-len : goal.returns-clause-len
returns-clause-len c = c.len.ensures.len ∙ sym (ap length (pieces.bytes_in _ _ _ _ c.self.invariant c.self.view_is))
