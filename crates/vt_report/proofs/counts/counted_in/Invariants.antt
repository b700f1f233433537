use Rattle.std.proofs.Common.{◌≡◌, take}
use Rattle.session_print.specs.Lines.{flushed_count, dropped_count}
use Rattle.vt_report.proofs.counts.counted_in.Given as goal

abbrev pub invariant-loop-place : goal.invariant-loop-place
invariant-loop-place l = record {
  flushes : l.flushed ≡ flushed_count (take l.place l.journal.items);
  drops : l.dropped ≡ dropped_count (take l.place l.journal.items);
}
