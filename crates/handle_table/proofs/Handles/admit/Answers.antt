use Rattle.std.proofs.Common.{rules}
use Rattle.handle_table.proofs.Handles.admit.Goals as goal

pub returns-clause-free : goal.returns-clause-free
returns-clause-free c = search rules steps 300000

pub returns-clause-after : goal.returns-clause-after
returns-clause-after c = search rules steps 300000
