use Rattle.std.proofs.Common.{rules}
use Rattle.many_threads.proofs.shared_phase.end_phase.Goals as goal

pub returns-in-Err-Full : goal.returns-in-Err-Full
returns-in-Err-Full c = search rules steps 1000000
