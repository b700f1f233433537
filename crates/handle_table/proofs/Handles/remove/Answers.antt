use Rattle.std.proofs.Common.{rules}
use Rattle.handle_table.proofs.Handles.remove.Goals as goal

pub returns-then-handle-clause-after : goal.returns-then-handle-clause-after
returns-then-handle-clause-after c = search rules steps 300000

pub returns-else-handle-clause-after : goal.returns-else-handle-clause-after
returns-else-handle-clause-after c = search rules steps 300000
