use Rattle.std.proofs.Common.{◌≡◌, ℕ, take}
use Rattle.session_print.specs.Lines.{flushed_count, dropped_count}
use Rattle.session_print.specs.Report.{answer_in}
use Rattle.session_print.specs.Printing.{answer_at, place_in}
use Rattle.session_print.proofs.answers.walk.Given as goal

abbrev pub invariant-loop-index : goal.invariant-loop-index
invariant-loop-index l = record {
  notes : (c step : ℕ)
      → answer_at l.journal.items (place_in l.places c step) ≡ answer_in (take l.index l.journal.items) c step;
  flushes : l.sums.flushed ≡ flushed_count (take l.index l.journal.items);
  drops : l.sums.dropped ≡ dropped_count (take l.index l.journal.items);
}
