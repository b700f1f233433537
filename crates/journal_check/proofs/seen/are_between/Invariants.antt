use Rattle.std.proofs.Common.{◌≡◌, ◌≤◌, drop, length}
use Rattle.journal_check.specs.Seen.{are_between}
use Rattle.journal_check.proofs.seen.are_between.Given as goal

abbrev pub invariant-loop-overrun : goal.invariant-loop-overrun
invariant-loop-overrun l = record {
  value : are_between l.ends l.starts l.stops l.phase (drop l.overrun-index l.overruns)
      ≡ are_between l.ends l.starts l.stops 0 l.overruns;
  within : l.phase ≤ length l.ends;
}
