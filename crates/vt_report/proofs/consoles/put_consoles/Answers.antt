use Rattle.std.proofs.Common.{ap, string_bytes, ◌∙◌}
use Rattle.vt_report.proofs.Pieces.{console_more, console_over}
use Rattle.vt_report.proofs.consoles.put_consoles.Goals as goal
use Rattle.vt_report.proofs.consoles.put_consoles.Goals.{in-Some+in_ok-put_counted, in_default}

pub loop-console-preserved : goal.loop-console-preserved
loop-console-preserved c =
    elim c.match-get.branch [
      | in-Some+in_ok-put_counted w ↦
          console_more c.args.entries.now _ (string_bytes c.loop-console.text) (string_bytes c.match-get.text)
          c.args.runs.now c.args.ends.now c.loop-console.console c.index-runs-console.result w.in-Some.end.now
          c.loop-console-test.true c.index-runs-console.is w.in-Some.ensures.lookup.3.0 w.in-Some.ensures.lookup.1
          (ap string_bytes w.text-is ∙ w.in_ok-put_counted.ensures) c.loop-console.invariant
      | in_default w ↦
          console_over c.args.entries.now _ (string_bytes c.loop-console.text) (string_bytes c.match-get.text)
          c.args.runs.now c.args.ends.now c.loop-console.console w.in_default.ensures.lookup.3
          (ap string_bytes w.text-is) c.loop-console.invariant
    ]
