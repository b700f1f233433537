use Rattle.std.proofs.Common.{rules}
use Rattle.tty_calls.specs.Plain.{entry_of}
use Rattle.session_print.specs.Lines.{flushed_in, dropped_in}
use Rattle.vt_report.proofs.Counting.{sum_more}
use Rattle.vt_report.proofs.counts.counted_in.Goals as goal

pub loop-place-preserved : goal.loop-place-preserved
loop-place-preserved c =
    let es = c.args.journal.now.items in
    let i = c.loop-place.place in
    let entry = entry_of c.at-entry.result in
    let at = c.at-entry.ensures in
    record {
      flushes = sum_more flushed_in es i entry c.in_ok-flushed.flushed c.loop-place.flushed at (search rules)
          c.loop-place.invariant.flushes;
      drops = sum_more dropped_in es i entry c.in_ok-dropped.dropped c.loop-place.dropped at (search rules)
          c.loop-place.invariant.drops;
    }
