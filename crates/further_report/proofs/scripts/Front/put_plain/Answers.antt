use Rattle.std.proofs.Common.{◌++◌, List, ℕ, ap, arith, ◌∙◌}
use Rattle.std.specs.Prelude.{slice_get}
use Rattle.tty_calls.specs.Plain.{call_of}
use Rattle.further_report.specs.Calls.{answered_line}
use Rattle.further_report.specs.Printing.{bytes_of}
use Rattle.further_report.proofs.Lines.{plain_over, plain_step}
use Rattle.further_report.proofs.scripts.Front.put_plain.Goals as goal

pub loop-place-preserved : goal.loop-place-preserved
loop-place-preserved c =
    let front = c.args.self.now in
    let answers = bytes_of front.answers.now in
    let text = c.loop-place.text.items in
    let step = c.loop-place.step in
    let put =
    c.in_ok-put_line.ensures
    ∙ ap (λ (verb : List ℕ). text ++ answered_line front.port front.name.now step verb (slice_get answers step))
    c.verb_of.ensures in
    record {
      lines = plain_step front.port front.name.now answers text c.put_line.new.text.items _ c.args.calls.now.items step
          c.in_ok-step.step c.loop-place.place c.args.end (call_of c.at.result) c.at.ensures c.loop-place-test.true
          c.in_ok-step.ensures put c.loop-place.invariant.lines;
      at_step = omega (arith, c.in_ok-step.ensures, c.loop-place.invariant.at_step, c.loop-place-test.true);
    }

pub returns : goal.returns
returns c =
    let front = c.args.self.now in
    let answers = bytes_of front.answers.now in
    record {
      text = plain_over front.port front.name.now answers c.loop-place.text.items _ c.args.calls.now.items
          c.loop-place.step c.loop-place.place c.args.end c.loop-place-test.false c.loop-place.invariant.lines;
      step = omega (arith, c.loop-place.invariant.at_step, c.loop-place-test.false);
    }
