use Rattle.std.proofs.Common.{◌∙◌, ap, refl}
use Rattle.tty_calls.specs.Plain.{entry_of}
use Rattle.session_print.specs.Lines.{flushed_in, dropped_in}
use Rattle.session_print.specs.Printing.{answer_at, place_in}
use Rattle.session_print.proofs.Answering.{told_more, told_same, sum_more}
use Rattle.session_print.proofs.answers.walk.Goals as goal
use Rattle.session_print.proofs.answers.walk.Goals.{in-Some+in_ok-note, in_default}

pub loop-index-preserved : goal.loop-index-preserved
loop-index-preserved c =
    let es = c.args.journal.now.items in
    let i = c.loop-index.index in
    let entry = entry_of c.at-entry.result in
    let at = c.at-entry.ensures in
    record {
      notes =
          elim c.match-turn_of.branch [
            | in-Some+in_ok-note w ↦ λ n step.
                ap (λ places. answer_at es (place_in places n step)) w.places-is
                ∙ told_more c.loop-index.places w.note.new.self es i entry w.in-Some.turn _ at refl
                w.in-Some.ensures.turn w.in-Some.ensures.answer w.in_ok-note.ensures c.loop-index.invariant.notes n step
            | in_default w ↦ λ n step.
                ap (λ places. answer_at es (place_in places n step)) w.places-is
                ∙ told_same c.loop-index.places es i entry at w.in_default.ensures.turn
                c.loop-index.invariant.notes n step
          ];
      flushes = sum_more flushed_in es i entry c.add.new.self.flushed c.loop-index.sums.flushed at
          c.in_ok-add.ensures.flushed c.loop-index.invariant.flushes;
      drops = sum_more dropped_in es i entry c.add.new.self.dropped c.loop-index.sums.dropped
          at c.in_ok-add.ensures.dropped c.loop-index.invariant.drops;
    }
