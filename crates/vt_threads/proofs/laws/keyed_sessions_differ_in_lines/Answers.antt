use Rattle.vt_threads.proofs.SameCallers.{keyed_differs}
use Rattle.vt_threads.proofs.laws.keyed_sessions_differ_in_lines.Goals as goal

pub returns : goal.returns
returns c session entries whole = keyed_differs session entries whole
