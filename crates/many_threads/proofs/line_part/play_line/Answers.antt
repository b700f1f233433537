use Rattle.std.proofs.Common.{arith, ◌+◌, ◌≤◌, length, subst, sym}
use Rattle.std.proofs.lemmas.Grind.{common_steps}
use Rattle.port_cell.specs.Knowledge.{list_seen}
use Rattle.tty_port.specs.Seen.{marks_at}
use Rattle.tty_port.specs.Shared.{name_of_port}
use Rattle.tty_port.specs.Calls.{PortSeat}
use Rattle.tty_port.specs.Lines.{MakesOne, EndsLine}
use Rattle.tty_port.proofs.Outcomes.{on_ok}
use Rattle.many_threads.proofs.PartLemmas.{puts_more, line_plays}
use Rattle.many_threads.proofs.line_part.play_line.Goals as goal

pub line_end-requires-clause-sent : goal.line_end-requires-clause-sent
line_end-requires-clause-sent g c =
    let h = c.requires.done in
    let sent = subst (λ (s : PortSeat). (marks_at (list_seen s)).sent ≤ length c.args.receiver.now.putter.sent)
    (sym c.send.ensures.seat) c.requires.sent in
    puts_more _ _ _ _ _ _ _ _ _ _ sent (c.send.ensures.runs.hands_over h.0 h.1)

pub returns-clause-ok : goal.returns-clause-ok
returns-clause-ok g c =
    let n = (name_of_port c.args.shared.now).callers + 1 in
    let old = c.args.receiver.now in
    on_ok c.line_end.result _ _ (λ one.
    line_plays n c.args.steps.now old.line c.send.new.line old.putter c.send.new.putter c.line_end.new.putter old.seat
    c.line_end.new.seat c.requires.seat.number c.send.ensures.runs
    (subst (λ (s : PortSeat). MakesOne (EndsLine n c.send.new.putter c.line_end.new.putter) s c.line_end.new.seat)
    c.send.ensures.seat one)) c.line_end.ensures.ok

pub returns-clause-err : goal.returns-clause-err
returns-clause-err g c = grind (arith, common_steps) steps 1000000
