use Rattle.std.proofs.Common.{◌-◌, ◌++◌, List, ℕ, refl, ap, arith, ◌∙◌}
use Rattle.std.specs.Prelude.{slice_get}
use Rattle.further_report.specs.Calls.{answered_line}
use Rattle.further_report.specs.Printing.{bytes_of}
use Rattle.further_report.proofs.Lines.{few, placed_count, placed_put}
use Rattle.further_report.proofs.scripts.Front.put_placed.Goals as goal

pub returns-clause-text : goal.returns-clause-text
returns-clause-text g c =
    let verb = g.C.FurtherCall.verb_text in
    let front = c.args.self.now in
    let answers = bytes_of front.answers.now in
    let calls = c.args.calls.now.items in
    let at = c.args.cursor.taken in
    let gap = c.args.placed.place - c.args.cursor.place in
    let end = c.end_of-taken.result in
    let parts = few calls at gap end c.len.result _ c.len.ensures refl c.requires c.end_of-taken.ensures.end in
    let mid = c.put_plain.new.text.items in
    let step = c.in_ok-step.step in
    let last =
    c.in_ok-put_line.ensures
    ∙ ap (λ (word : List ℕ). mid ++ answered_line front.port front.name.now step word (slice_get answers step))
    c.verb.ensures in
    placed_put verb front.port front.name.now answers c.args.text.now.items mid c.put_line.new.text.items
    calls c.args.cursor.step step at gap end c.args.placed.call
    c.end_of-taken.ensures.from (omega (arith, c.end_of-taken.ensures.within, c.len.ensures)) parts.0
    c.in_ok-step.ensures.step c.in_ok-step.ensures.text last

pub returns-clause-step : goal.returns-clause-step
returns-clause-step g c =
    let calls = c.args.calls.now.items in
    let at = c.args.cursor.taken in
    let gap = c.args.placed.place - c.args.cursor.place in
    let end = c.end_of-taken.result in
    let parts = few calls at gap end c.len.result _ c.len.ensures refl c.requires c.end_of-taken.ensures.end in
    c.in_ok-step-2.ensures
    ∙ placed_count calls c.args.cursor.step c.in_ok-step.step at gap end c.args.placed.call c.end_of-taken.ensures.from
    (omega (arith, c.end_of-taken.ensures.within, c.len.ensures)) parts.0 c.in_ok-step.ensures.step

pub returns-clause-taken : goal.returns-clause-taken
returns-clause-taken g c =
    (few c.args.calls.now.items c.args.cursor.taken (c.args.placed.place - c.args.cursor.place) c.end_of-taken.result
    c.len.result _ c.len.ensures refl c.requires c.end_of-taken.ensures.end).1
