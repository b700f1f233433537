use Rattle.std.proofs.Common.{[], subst, sym, append-nil}
use Rattle.std.proofs.lemmas.Result.{err_from_is_err_and}
use Rattle.play_base.specs.Scenes.{HasAnyOrder}
use Rattle.one_thread.specs.Following.{GoesAlong, StopsAlong, met_with}
use Rattle.one_thread.specs.Lines.{StopsLineIn}
use Rattle.one_thread.specs.LineInside.{line_at, steps_of}
use Rattle.one_thread.proofs.GoingAlong.{end_stops}
use Rattle.one_thread.proofs.LineEnds.{start_of, stands_at_start, plays_all, stops_all, stops_denied, line_ends}
use Rattle.one_thread.proofs.Orders.{plays_its_line, stops_its_line}
use Rattle.one_thread.proofs.StationLemmas.{room_for_line}
use Rattle.one_thread.proofs.line.play_line.Goals as goal

pub play_steps-requires-clause-stands : goal.play_steps-requires-clause-stands
play_steps-requires-clause-stands g c =
    let h = c.requires.begins in
    let v = c.args.port.now in
    stands_at_start h.scene v c.args.putter.now c.meet.new.putter c.args.line.now c.args.run h.begins
    h.within c.known.ensures.taken c.meet.ensures.putter
    c.args.steps.now.items h.steps_are c.meet.new.self c.meet.ensures.port
    (room_for_line h.scene v.terminal.phase v c.args.putter.now c.args.line.now c.args.run
    c.args.steps.now.items h.begins h.within h.steps_are)

pub returns-in_err-next-clause-err : goal.returns-in_err-next-clause-err
returns-in_err-next-clause-err g c =
    let p = err_from_is_err_and c.from_residual.result c.from_residual.ensures.1 in
    let w = c.play_steps.new in
    rw (p.1, p.2)
    (stops_its_line c.in_err-next.field-0.0 c.args.steps.now.items c.args.port.now w.port
    c.args.putter.now w.putter c.args.line.now w.line c.args.run
    (λ h.
    stops_all h.scene c.args.port.now c.args.putter.now c.meet.new.putter c.args.line.now c.args.run h.begins
    h.within c.known.ensures.taken c.meet.ensures.putter
    c.args.steps.now.items h.steps_are c.meet.new.self c.meet.ensures.port c.in_err-next.field-0.0
    (line_at w.port w.putter w.line) c.in_err-next.ensures.does))

pub returns-in_err-next-clause-follows : goal.returns-in_err-next-clause-follows
returns-in_err-next-clause-follows g c =
    let p = err_from_is_err_and c.from_residual.result c.from_residual.ensures.1 in
    let w = c.play_steps.new in
    rw (p.1, p.2) (subst (λ v. StopsAlong c.in_err-next.field-0.0 g.F.Follower.follows v w.port c.args.follower.now
    w.follower) c.meet.ensures.port c.in_err-next.ensures.follows)

pub line_end-requires-clause-not_over : goal.line_end-requires-clause-not_over
line_end-requires-clause-not_over g c =
    let h = c.requires.begins in
    let w = c.play_steps.new in
    let last = plays_all h.scene c.args.port.now c.args.putter.now c.meet.new.putter c.args.line.now c.args.run h.begins
    h.within c.known.ensures.taken c.meet.ensures.putter
    c.args.steps.now.items h.steps_are c.meet.new.self c.meet.ensures.port (line_at w.port w.putter w.line)
    c.in_ok-next.next c.in_ok-next.ensures.does in
    last.in_line.line_over

pub line_end-requires-clause-ring : goal.line_end-requires-clause-ring
line_end-requires-clause-ring g c =
    let h = c.requires.begins in
    let w = c.play_steps.new in
    let last = plays_all h.scene c.args.port.now c.args.putter.now c.meet.new.putter c.args.line.now c.args.run h.begins
    h.within c.known.ensures.taken c.meet.ensures.putter
    c.args.steps.now.items h.steps_are c.meet.new.self c.meet.ensures.port (line_at w.port w.putter w.line)
    c.in_ok-next.next c.in_ok-next.ensures.does in
    last.in_line.has_put.ring

pub line_end-requires-clause-sent : goal.line_end-requires-clause-sent
line_end-requires-clause-sent g c =
    let h = c.requires.begins in
    let w = c.play_steps.new in
    let last = plays_all h.scene c.args.port.now c.args.putter.now c.meet.new.putter c.args.line.now c.args.run h.begins
    h.within c.known.ensures.taken c.meet.ensures.putter
    c.args.steps.now.items h.steps_are c.meet.new.self c.meet.ensures.port (line_at w.port w.putter w.line)
    c.in_ok-next.next c.in_ok-next.ensures.does in
    last.in_line.sent

pub returns-in_err-line_end-clause-err : goal.returns-in_err-line_end-clause-err
returns-in_err-line_end-clause-err g c =
    let p = err_from_is_err_and c.from_residual-in_err-line_end.result c.from_residual-in_err-line_end.ensures.1 in
    let w = c.play_steps.new in
    rw (p.1, p.2)
    (stops_its_line c.in_err-line_end.field-0.0 c.args.steps.now.items c.args.port.now c.line_end.new.self
    c.args.putter.now c.line_end.new.putter c.args.line.now w.line c.args.run
    (λ h.
    let b = start_of h.scene c.args.port.now c.args.line.now in
    let last = plays_all h.scene c.args.port.now c.args.putter.now c.meet.new.putter c.args.line.now c.args.run h.begins
    h.within c.known.ensures.taken c.meet.ensures.putter
    c.args.steps.now.items h.steps_are c.meet.new.self c.meet.ensures.port (line_at w.port w.putter w.line)
    c.in_ok-next.next c.in_ok-next.ensures.does in
    subst (λ q. StopsLineIn HasAnyOrder c.in_err-line_end.field-0.0 h.scene c.args.port.now.terminal.phase
    c.args.port.now c.line_end.new.self q w.line)
    (sym c.in_err-line_end.ensures.putter)
    (stops_denied c.in_err-line_end.field-0.0 b w.port c.line_end.new.self w.putter w.line (steps_of b) []
    (sym (append-nil (steps_of b))) last.in_line c.in_err-line_end.ensures.err)))

pub returns-in_err-line_end-clause-follows : goal.returns-in_err-line_end-clause-follows
returns-in_err-line_end-clause-follows g c =
    let p = err_from_is_err_and c.from_residual-in_err-line_end.result c.from_residual-in_err-line_end.ensures.1 in
    let w = c.play_steps.new in
    rw (p.1, p.2) (end_stops c.in_err-line_end.field-0.0 g.F.Follower.follows
    (met_with c.args.port.now c.args.putter.now) w.port c.line_end.new.self c.args.follower.now w.follower
    (subst (λ v. GoesAlong g.F.Follower.follows v w.port c.args.follower.now w.follower) c.meet.ensures.port
    c.in_ok-next.ensures.follows)
    c.known-2.ensures.port c.in_err-line_end.ensures.err)

pub returns-clause-ok : goal.returns-clause-ok
returns-clause-ok g c =
    let w = c.play_steps.new in
    plays_its_line c.args.steps.now.items c.args.port.now c.line_end.new.self c.args.putter.now c.line_end.new.putter
    c.args.line.now w.line c.args.run c.in_ok-next.next
    (λ h.
    let b = start_of h.scene c.args.port.now c.args.line.now in
    let last = plays_all h.scene c.args.port.now c.args.putter.now c.meet.new.putter c.args.line.now c.args.run h.begins
    h.within c.known.ensures.taken c.meet.ensures.putter
    c.args.steps.now.items h.steps_are c.meet.new.self c.meet.ensures.port (line_at w.port w.putter w.line)
    c.in_ok-next.next c.in_ok-next.ensures.does in
    line_ends b w.port c.line_end.new.self w.putter c.line_end.new.putter w.line c.in_ok-next.next last
    c.known-2.ensures.port c.in_ok-line_end.ensures.ok)

pub returns-clause-follows : goal.returns-clause-follows
returns-clause-follows g c =
    let w = c.play_steps.new in
    record {
      mid = w.port;
      goes = subst (λ v. GoesAlong g.F.Follower.follows v w.port c.args.follower.now w.follower) c.meet.ensures.port
          c.in_ok-next.ensures.follows;
      put = w.putter;
      now = c.line_end.new.putter;
      was = c.known-2.ensures.port;
      is = c.known-3.ensures.port;
      ends = c.in_ok-line_end.ensures.ok;
    }
