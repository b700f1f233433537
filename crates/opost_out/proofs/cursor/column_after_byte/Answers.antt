use Rattle.std.proofs.Common.{rules}
use Rattle.opost_out.proofs.cursor.column_after_byte.Goals as goal

pub returns-in-128-to-191-clause-value : goal.returns-in-128-to-191-clause-value
returns-in-128-to-191-clause-value c = search rules steps 100000
