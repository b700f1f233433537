use Rattle.job_one.proofs.Deriving.{whole_derived}
use Rattle.job_one.proofs.laws.what_is_whole_is_derived.Goals as goal

pub returns : goal.returns
returns c = whole_derived
