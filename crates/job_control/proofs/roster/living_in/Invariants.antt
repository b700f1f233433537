use Rattle.std.proofs.Common.{◌≡◌, ℕ, ◌+◌, ◌-◌, ◌<◌, length}
use Rattle.std.specs.Prelude.{count_by}
use Rattle.std.specs.List.{range_with_len}
use Rattle.tty_base.specs.Sizes.{GROUP_END}
use Rattle.job_control.specs.Roster.{group_at}
use Rattle.job_control.specs.Keeping.{counted, lives_under, living_count}
use Rattle.job_control.proofs.roster.living_in.Given as goal

abbrev pub invariant-loop-place : goal.invariant-loop-place
invariant-loop-place l =
    ((key : ℕ)
    → counted l.living key
    + count_by (lives_under l.procs l.exited key) (range_with_len l.place (length l.procs - l.place))
    ≡ living_count l.procs l.exited key)
    × ((p : ℕ) → p < l.place → group_at l.procs p < GROUP_END)
