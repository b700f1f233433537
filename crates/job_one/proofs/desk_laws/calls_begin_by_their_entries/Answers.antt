use Rattle.order_laws.proofs.BegunBefore.{begun_elsewhere, begun_by_none}
use Rattle.job_one.proofs.desk_laws.calls_begin_by_their_entries.Goals as goal

pub returns : goal.returns
returns c = record { elsewhere = begun_elsewhere; by_none = begun_by_none }
