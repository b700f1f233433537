use Rattle.std.proofs.Common.{rules}
use Rattle.handle_table.proofs.Handles.state.Goals as goal

pub returns-clause-state : goal.returns-clause-state
returns-clause-state c = search rules steps 300000
