use Rattle.std.proofs.Common.{◌≡◌, take}
use Rattle.session_print.specs.Summary.{all_arrived, all_flushed, all_got}
use Rattle.session_print.proofs.summaries.totals_of.Given as goal

abbrev pub invariant-loop-run : goal.invariant-loop-run
invariant-loop-run l = record {
  arrives : l.arrived ≡ all_arrived (take l.run-index l.runs);
  flushes : l.flushed ≡ all_flushed (take l.run-index l.runs);
  gives : l.got ≡ all_got (take l.run-index l.runs);
}
