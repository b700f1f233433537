use Rattle.std.proofs.Common.{◌≡◌, ◌++◌, drop}
use Rattle.job_text.specs.Sessions.{procs_on}
use Rattle.job_text.proofs.ports.procs_on.Given as goal

abbrev pub invariant-loop-proc : goal.invariant-loop-proc
invariant-loop-proc l = l.found.items ++ procs_on l.port (drop l.proc-index l.procs) ≡ procs_on l.port l.procs
