use Rattle.std.proofs.Common.{◌≡◌, ℕ, ◌+◌, ◌-◌, length}
use Rattle.std.specs.Prelude.{count_by}
use Rattle.std.specs.List.{range_with_len}
use Rattle.job_control.specs.Roster.{ties_group}
use Rattle.job_control.specs.Keeping.{counted, ties_count}
use Rattle.job_control.proofs.roster.ties_in.Given as goal

abbrev pub invariant-loop-place : goal.invariant-loop-place
invariant-loop-place l =
    (group : ℕ)
    → counted l.ties group
    + count_by (ties_group l.procs l.exited group) (range_with_len l.place (length l.procs - l.place))
    ≡ ties_count l.procs l.exited group
