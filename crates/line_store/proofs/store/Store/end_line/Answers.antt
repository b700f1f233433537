use Rattle.std.proofs.Common.{arith}
use Rattle.line_store.proofs.PieceLemmas as pieces
use Rattle.line_store.proofs.store.Store.end_line.Goals as goal

pub push-requires : goal.push-requires
push-requires c = omega (arith, pieces.ends_in _ _ _ _ c.self.invariant c.self.view_is, c.requires)

pub invariant_of-self : goal.invariant_of-self
invariant_of-self c = pieces.store_with_end _ _ _ _ c.self.invariant c.self.view_is _ c.push.ensures c.requires

pub returns : goal.returns
returns c = pieces.ended _ _ _ _ c.self.invariant c.self.view_is _ c.push.ensures
