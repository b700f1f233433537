use Rattle.std.proofs.Common.{◌∙◌, sym}
use Rattle.line_store.proofs.PieceLemmas as pieces
use Rattle.line_store.proofs.store.Store.lines.Goals as goal

pub returns-clause-lines : goal.returns-clause-lines
returns-clause-lines c = c.len.ensures.len ∙ sym (pieces.ends_in _ _ _ _ c.self.invariant c.self.view_is)
