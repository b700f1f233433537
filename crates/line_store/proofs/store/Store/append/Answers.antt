use Rattle.std.proofs.Common.{length, ap, arith}
use Rattle.line_store.proofs.PieceLemmas as pieces
use Rattle.line_store.proofs.store.Store.append.Goals as goal

pub append-requires : goal.append-requires
append-requires c = omega (arith, ap length (pieces.bytes_in _ _ _ _ c.self.invariant c.self.view_is), c.requires)

pub invariant_of-self : goal.invariant_of-self
invariant_of-self c = pieces.store_with_more _ _ _ _ c.self.invariant c.self.view_is _ _ c.append.ensures c.requires

pub returns : goal.returns
returns c = pieces.more _ _ _ _ c.self.invariant c.self.view_is _ _ c.append.ensures
