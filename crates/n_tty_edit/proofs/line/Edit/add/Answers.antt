use Rattle.std.proofs.Common.{rules}
use Rattle.n_tty_edit.proofs.line.Edit.add.Goals as goal

pub returns-then-free-clause-room : goal.returns-then-free-clause-room
returns-then-free-clause-room c = search rules steps 300000

pub returns-then-free-clause-line : goal.returns-then-free-clause-line
returns-then-free-clause-line c = search rules steps 300000

pub push_reserved-requires : goal.push_reserved-requires
push_reserved-requires c = search rules steps 300000

pub invariant_of-self : goal.invariant_of-self
invariant_of-self c = search rules steps 300000
