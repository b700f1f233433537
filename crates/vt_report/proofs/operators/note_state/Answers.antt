use Rattle.std.proofs.Common.{get_or, ap}
use Rattle.vt_report.specs.Report.{state_in}
use Rattle.vt_report.proofs.Standing.{told_more_is}
use Rattle.vt_report.proofs.operators.note_state.Goals as goal

pub returns-in_ok-push : goal.returns-in_ok-push
returns-in_ok-push c =
    let states = c.args.states.now in
    let e = c.args.entry.now in
    told_more_is states e c.in-State.n (get_or states e.seat c.index-states-seat.result) c.push.new.self
    c.if-seat-states.true (ap (get_or states e.seat) c.index-states-seat.is) c.in_ok-push.ensures.items
    (ap state_in c.in-State.is)
