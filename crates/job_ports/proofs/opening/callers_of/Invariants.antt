use Rattle.std.proofs.Common.{◌≤◌, length}
use Rattle.job_ports.proofs.Opened.{AreNoted}
use Rattle.job_ports.proofs.opening.callers_of.Given as goal

abbrev pub invariant-loop-left : goal.invariant-loop-left
invariant-loop-left l = record {
  noted : AreNoted l.procs l.names l.left l.callers.items;
  within : l.left ≤ length l.procs;
}

abbrev pub decreases-loop-left : goal.decreases-loop-left
decreases-loop-left l = l.left
