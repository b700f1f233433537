use Rattle.std.proofs.Common.{◌≡◌, ℕ, [], ◌+◌, ◌-◌, length, map, slice_index_or}
use Rattle.session_print.specs.Printing.{stretches_of}
use Rattle.session_print.proofs.places.Places.note.Given as goal

abbrev pub invariant-loop-self : goal.invariant-loop-self
invariant-loop-self l =
    (c : ℕ)
    → slice_index_or (map (λ row. stretches_of row.items) l.self.rows.items) c []
    ≡ slice_index_or (map (λ row. stretches_of row.items) l.initial.self.rows.items) c []

abbrev pub decreases-loop-self : goal.decreases-loop-self
decreases-loop-self l = l.turn.caller + 1 - length l.self.rows.items
