use Rattle.std.proofs.Common.{◌≡◌, ℕ, ◌-◌, drop}
use Rattle.std.specs.Prelude.{count_by}
use Rattle.job_control.specs.Roster.{ties_group}
use Rattle.job_control.specs.Keeping.{counted}
use Rattle.job_control.proofs.roster.untie.Given as goal

abbrev pub invariant-loop-child : goal.invariant-loop-child
invariant-loop-child l =
    (group : ℕ) → counted l.ties group - count_by (ties_group l.procs l.exited group) (drop l.child-index l.children)
    ≡ counted l.initial.ties group - count_by (ties_group l.procs l.exited group) l.children
