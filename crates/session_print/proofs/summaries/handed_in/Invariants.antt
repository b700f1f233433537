use Rattle.std.proofs.Common.{◌≡◌, take}
use Rattle.session_print.specs.Lines.{flushed_count}
use Rattle.session_print.specs.Summary.{got_count}
use Rattle.session_print.proofs.summaries.handed_in.Given as goal

abbrev pub invariant-loop-place : goal.invariant-loop-place
invariant-loop-place l = record {
  flushes : l.flushed ≡ flushed_count (take l.place l.journal.items);
  gives : l.got ≡ got_count (take l.place l.journal.items);
}
