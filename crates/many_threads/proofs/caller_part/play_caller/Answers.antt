use Rattle.port_cell.specs.Knowledge.{list_seen}
use Rattle.tty_port.specs.Seen.{standing_at}
use Rattle.tty_port.proofs.Outcomes.{on_ok}
use Rattle.many_threads.proofs.PartLemmas.{caller_plays, none_more, where_err}
use Rattle.many_threads.proofs.caller_part.play_caller.Goals as goal

pub returns-clause-ok : goal.returns-clause-ok
returns-clause-ok g c =
    let mid = c.make_calls.new.seat in
    let calls = c.args.calls.now.items in
    let between = c.in_ok-make_calls.ensures.ok in
    on_ok c.caller_end.result _ _
    (λ one. caller_plays c.args.caller c.args.first (standing_at c.args.caller (list_seen mid)).next calls
    (list_seen c.args.seat.now) mid c.caller_end.new.seat c.make_calls.ensures.seat.number
    between.next c.make_calls.ensures.makes between one) c.caller_end.ensures.ok

pub returns-clause-err : goal.returns-clause-err
returns-clause-err g c =
    let mid = c.make_calls.new.seat in
    let calls = c.args.calls.now.items in
    where_err c.caller_end.result _ _
    (λ none. none_more c.args.caller c.args.first calls (list_seen c.args.seat.now)
    mid c.caller_end.new.seat c.make_calls.ensures.makes none) c.caller_end.ensures.err
