use Rattle.job_one.proofs.Raised.{entry_still}
use Rattle.job_one.proofs.Phasing.{signals_stay}
use Rattle.job_one.proofs.desk_laws.signals_come_of_flushes.Goals as goal

pub returns : goal.returns
returns c = record { step = entry_still; entry = signals_stay }
