use Rattle.check_text.proofs.Spelled.{spelled_fault, unrefused_spells}
use Rattle.check_text.proofs.laws.a_text_is_refused_exactly_where_it_spells_no_runs.Goals as goal

pub returns-clause-spelled : goal.returns-clause-spelled
returns-clause-spelled c = spelled_fault

pub returns-clause-refused : goal.returns-clause-refused
returns-clause-refused c = unrefused_spells
