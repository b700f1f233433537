use Rattle.std.proofs.lemmas.Bool.{true≢false}
use Rattle.modem_laws.proofs.further_logs_are_none.Goals as goal

pub returns-clause-under_way : goal.returns-clause-under_way
returns-clause-under_way c = λ run. true≢false run.leads.3.2.between

pub returns-clause-other_call : goal.returns-clause-other_call
returns-clause-other_call c = λ run. let never = run.leads.3.2.of_call in cc
