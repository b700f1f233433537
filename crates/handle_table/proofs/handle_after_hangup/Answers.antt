use Rattle.std.proofs.Common.{rules}
use Rattle.handle_table.proofs.handle_after_hangup.Goals as goal

pub returns : goal.returns
returns c = search rules steps 300000
