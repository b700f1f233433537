use Rattle.std.proofs.Common.{◌≡◌, ◌≤◌, ◌-◌, drop, length}
use Rattle.journal_check.specs.Seen.{phase_from}
use Rattle.journal_check.proofs.seen.phase_of.Given as goal

abbrev pub invariant-loop-phase : goal.invariant-loop-phase
invariant-loop-phase l = record {
  value : phase_from l.phase (drop l.phase l.ends) l.at ≡ phase_from l.from (drop l.from l.ends) l.at;
  within : l.phase ≤ length l.ends;
}

abbrev pub decreases-loop-phase : goal.decreases-loop-phase
decreases-loop-phase l = length l.ends - l.phase
