use Rattle.std.proofs.Common.{◌≡◌, [], drop}
use Rattle.std.proofs.lemmas.List.{drop_all}
use Rattle.passed_calls.specs.Scripts.{mixed}
use Rattle.further_report.specs.Printing.{bytes_of}
use Rattle.further_report.proofs.Lines.{scripting_left, scripting_next, scripting_over}
use Rattle.further_report.proofs.scripts.Front.put_calls.Goals as goal

pub loop-call-preserved : goal.loop-call-preserved
loop-call-preserved g c =
    let front = c.args.self.now in
    let at = c.loop-call.cursor in
    let next = c.in_ok-cursor.cursor in
    let is = c.in_ok-cursor.ensures in
    let calls = c.args.calls.now.items in
    record {
      calls = scripting_next g.C.FurtherCall.verb_text front.port front.name.now (bytes_of front.answers.now)
          c.args.text.now.items c.args.step (mixed 0 calls c.args.placed.now)
          c.loop-call.text.items c.put_placed.new.text.items
          at.step next.step at.place next.place at.taken next.taken c.loop-call.call-index calls c.args.placed.now
          c.call-item.result c.loop-call-test.true c.call-item.is is.text
          is.step is.taken is.place c.loop-call.invariant.calls;
      within = is.within;
    }

pub returns : goal.returns
returns g c =
    let front = c.args.self.now in
    let at = c.loop-call.cursor in
    let calls = c.args.calls.now.items in
    let placed = c.args.placed.now in
    let none : drop c.loop-call.call-index placed ≡ [] =
    drop_all c.loop-call.call-index placed c.loop-call-test.false in
    let over = scripting_over g.C.FurtherCall.verb_text front.port front.name.now (bytes_of front.answers.now)
    c.args.text.now.items c.args.step (mixed 0 calls placed) c.loop-call.text.items c.put_plain.new.text.items
    at.step c.in_ok-put_plain.field-0 at.taken c.len.result calls c.loop-call.invariant.within c.len.ensures
    c.in_ok-put_plain.ensures.text c.in_ok-put_plain.ensures.step
    (scripting_left g.C.FurtherCall.verb_text front.port front.name.now (bytes_of front.answers.now)
    c.args.text.now.items c.args.step (mixed 0 calls placed) c.loop-call.text.items at.step at.place
    (drop at.taken calls) (drop c.loop-call.call-index placed) none c.loop-call.invariant.calls) in
    record { text = over.0; step = over.1 }
