use Rattle.std.proofs.Common.{◌≡◌, drop, map}
use Rattle.vt_report.specs.Printing.{states_after}
use Rattle.vt_report.proofs.operators.note_states.Given as goal

abbrev pub invariant-loop-entry : goal.invariant-loop-entry
invariant-loop-entry l =
    states_after (map (λ told. told.items) l.states) (drop l.entry-index l.entries)
    ≡ states_after (map (λ told. told.items) l.initial.states) l.entries
