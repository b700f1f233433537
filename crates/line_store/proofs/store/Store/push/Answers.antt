use Rattle.std.proofs.Common.{length, ap, arith}
use Rattle.line_store.proofs.PieceLemmas as pieces
use Rattle.line_store.proofs.store.Store.push.Goals as goal

pub push-requires : goal.push-requires
push-requires c = omega (arith, ap length (pieces.bytes_in _ _ _ _ c.self.invariant c.self.view_is), c.requires)

pub invariant_of-self : goal.invariant_of-self
invariant_of-self c =
    pieces.store_with_more _ _ _ _ c.self.invariant c.self.view_is _ _ c.push.ensures (omega (arith, c.requires))

pub returns : goal.returns
returns c = pieces.more _ _ _ _ c.self.invariant c.self.view_is _ _ c.push.ensures
