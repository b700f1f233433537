use Rattle.std.proofs.Common.{rules}
use Rattle.tty_calls.proofs.calls.Call.changes.Goals as goal

pub returns-in_default : goal.returns-in_default
returns-in_default c = search rules steps 1000000
