use Rattle.std.proofs.Common.{rules}
use Rattle.calls_left.proofs.remaining.Cursor.behind_plain.Goals as goal

pub returns : goal.returns
returns c = search rules steps 100000
