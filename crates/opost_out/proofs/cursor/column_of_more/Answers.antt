use Rattle.opost_out.proofs.Columns.{column_after-append}
use Rattle.opost_out.proofs.cursor.column_of_more.Goals as goal

pub returns : goal.returns
returns c = column_after-append 0
