use Rattle.job_laws.proofs.ReadLaws.{no_read}
use Rattle.job_laws.proofs.no_background_read_is_passed.Goals as goal

pub returns : goal.returns
returns c = no_read
