use Rattle.std.proofs.Common.{get_or, ap}
use Rattle.further_report.proofs.Noting.{noted_more}
use Rattle.further_report.proofs.answers.note.Goals as goal

pub returns-in_ok-push : goal.returns-in_ok-push
returns-in_ok-push c =
    let answers = c.args.answers.now in
    let caller = c.args.caller in
    noted_more answers caller c.args.text (get_or answers caller c.index-answers-caller.result) c.push.new.self
    c.if-caller-answers.true (ap (get_or answers caller) c.index-answers-caller.is) c.in_ok-push.ensures.items
