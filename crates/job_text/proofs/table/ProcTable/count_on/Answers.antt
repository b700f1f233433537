use Rattle.job_text.proofs.Tables.{count_found}
use Rattle.job_text.proofs.table.ProcTable.count_on.Goals as goal

pub returns : goal.returns
returns c = count_found _ _ _ _ _ _ _ _ c.self.invariant c.self.view_is c.as_slice.ensures.value c.from.ensures
    c.names_count.ensures
