use Rattle.job_one.proofs.Plain.{plain_of_blocks}
use Rattle.job_one.proofs.laws.a_session_has_its_blocks.Goals as goal

pub returns : goal.returns
returns c = plain_of_blocks
