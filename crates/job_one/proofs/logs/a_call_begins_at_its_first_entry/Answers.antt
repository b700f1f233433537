use Rattle.job_one.proofs.Begun.{first_next}
use Rattle.job_one.proofs.logs.a_call_begins_at_its_first_entry.Goals as goal

pub returns : goal.returns
returns c = first_next
