use Rattle.std.proofs.Common.{◌≡◌, ◌+◌, ◌-◌, ℕ, [], length}
use Rattle.std.specs.Prelude.{slice_index_or}
use Rattle.job_text.proofs.table.make_room.Given as goal

abbrev pub invariant-loop-alloc : goal.invariant-loop-alloc
invariant-loop-alloc l = (p : ℕ) → slice_index_or l.names.items p [] ≡ slice_index_or l.initial.names.items p []

abbrev pub decreases-loop-alloc : goal.decreases-loop-alloc
decreases-loop-alloc l = (l.port + 1) - length l.names.items
