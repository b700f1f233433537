use Rattle.std.proofs.Common.{◌≡◌, ◌∙◌, sym, subst, IsTrue}
use Rattle.std.specs.Prelude.{MatchBool, is_none, not}
use Rattle.job_control.specs.declared.processes.Judged.{Judged}
use Rattle.job_control.specs.declared.processes.Judged.TheVariants.{Pass}
use Rattle.job_steps.specs.Steps.{judged_answer}
use Rattle.job_one.proofs.NextCalls.{goes_begun, goes_judged}
use Rattle.job_one.proofs.after_line.goes_to_port.Goals as goal

pub returns-then-has_begun : goal.returns-then-has_begun
returns-then-has_begun c = goes_begun _ _ (sym c.has_begun.ensures ∙ c.if-has_begun.true)

pub returns : goal.returns
returns c =
    goes_judged c.passes.result _ _ (sym c.has_begun.ensures ∙ c.if-has_begun.false)
    (subst (λ (j : Judged). MatchBool c.passes.result (j ≡ Pass) (IsTrue (not (is_none (judged_answer j)))))
    c.judge.ensures c.passes.ensures)
