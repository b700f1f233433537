use Rattle.std.proofs.Common.{rules}
use Rattle.tty_calls.specs.Plain.{entry_of}
use Rattle.session_print.specs.Lines.{flushed_in}
use Rattle.session_print.specs.Summary.{got_in}
use Rattle.session_print.proofs.Answering.{sum_more}
use Rattle.session_print.proofs.summaries.handed_in.Goals as goal

pub loop-place-preserved : goal.loop-place-preserved
loop-place-preserved c =
    let es = c.args.journal.now.items in
    let i = c.loop-place.place in
    let entry = entry_of c.at-entry.result in
    let at = c.at-entry.ensures in
    record {
      flushes = sum_more flushed_in es i entry c.in_ok-flushed.flushed c.loop-place.flushed at (search rules)
          c.loop-place.invariant.flushes;
      gives =
          sum_more got_in es i entry c.in_ok-got.got c.loop-place.got at (search rules) c.loop-place.invariant.gives;
    }
