use Rattle.std.proofs.Common.{refl}
use Rattle.std.specs.Fmt.{digits}
use Rattle.job_print.proofs.laws.worked_lines_are_told.Goals as goal

pub returns : goal.returns
unfolding digits
returns c = refl
