-- What a call of job control is told.
use Rattle.std.proofs.Common.{◌≡◌, Option, None, Some, refl}
use Rattle.job_control.specs.declared.processes.JobRefusal.{JobRefusal}
use Rattle.job_control.specs.Control.{done_unless}
use Rattle.job_steps.specs.Steps.{done_or}
use Rattle.job_one.specs.Controls.{told_by}

pub told_is : (refusal : Option JobRefusal) → told_by (done_unless refusal) ≡ done_or refusal
told_is None = refl
told_is (Some refusal) = refl
