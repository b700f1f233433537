use Rattle.job_text.proofs.Tables.{not_found, place_found}
use Rattle.job_text.proofs.table.ProcTable.place_named.Goals as goal

pub returns-then-is_name : goal.returns-then-is_name
returns-then-is_name c = place_found _ _ _ _ _ _ _ _ _ c.self.invariant c.self.view_is c.as_slice.ensures.value
    c.name_of.ensures c.number_on.ensures

pub returns-else-is_name : goal.returns-else-is_name
returns-else-is_name c =
    not_found _ _ _ _ _ _ _ c.self.invariant c.self.view_is c.is_name.ensures c.if-is_name.false
