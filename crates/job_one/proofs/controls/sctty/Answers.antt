use Rattle.std.proofs.Common.{◌∙◌, ap}
use Rattle.job_one.specs.Controls.{told_by}
use Rattle.job_one.proofs.Telling.{told_is}
use Rattle.job_one.proofs.controls.sctty.Goals as goal

pub returns-clause-answer : goal.returns-clause-answer
returns-clause-answer c = c.told_as.ensures ∙ (ap told_by c.sctty.ensures.answer ∙ told_is _)
