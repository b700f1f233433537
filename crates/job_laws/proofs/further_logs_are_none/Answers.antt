use Rattle.std.proofs.Common.{◌<◌, arith}
use Rattle.job_laws.proofs.further_logs_are_none.Goals as goal

pub returns-clause-other_phase : goal.returns-clause-other_phase
returns-clause-other_phase c = λ run.
    (let below : 3 < 3 = run.leads.3.3.3.2.in_phase.to in absurd (omega (arith, below)))

pub returns-clause-twice : goal.returns-clause-twice
returns-clause-twice c = λ run. (let late : 3 < 3 = run.leads.3.3.2.at_once in absurd (omega (arith, late)))
