use Rattle.std.proofs.Common.{◌≡◌, ℕ, ◌<◌, [], length, map}
use Rattle.std.specs.Prelude.{filter, slice_index_or}
use Rattle.std.specs.List.{range_with_len}
use Rattle.job_control.specs.Keeping.{is_child}
use Rattle.job_control.proofs.roster.children_in.Given as goal

abbrev pub invariant-loop-place : goal.invariant-loop-place
invariant-loop-place l =
    (length (map (λ list. list.items) l.lists.items) ≡ length l.procs)
    × ((p : ℕ)
    → p < length l.procs
    → slice_index_or (map (λ list. list.items) l.lists.items) p []
    ≡ filter (is_child l.procs p) (range_with_len 0 l.place))
