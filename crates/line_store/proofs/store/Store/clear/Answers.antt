use Rattle.std.proofs.Common.{rules}
use Rattle.line_store.proofs.store.Store.clear.Goals as goal

pub invariant_of-self : goal.invariant_of-self
invariant_of-self c = search rules steps 300000

pub returns : goal.returns
returns c = search rules steps 300000
