use Rattle.std.proofs.Common.{[], ◌∷◌}
use Rattle.std.proofs.lemmas.Result.{err_from_is_err_and}
use Rattle.one_thread.specs.LineInside.{line_at}
use Rattle.one_thread.proofs.GoingAlong.{goes_once, flush_stops, follower_stops}
use Rattle.one_thread.proofs.LineLoop.{memory_stops}
use Rattle.one_thread.proofs.line.play_step.Goals as goal

pub returns-in_err-next-clause-does : goal.returns-in_err-next-clause-does
returns-in_err-next-clause-does g c =
    let p = err_from_is_err_and c.from_residual.result c.from_residual.ensures.1 in
    rw (p.1, p.2) c.in_err-next.ensures.does

pub returns-in_err-next-clause-follows : goal.returns-in_err-next-clause-follows
returns-in_err-next-clause-follows g c =
    let p = err_from_is_err_and c.from_residual.result c.from_residual.ensures.1 in
    rw (p.1, p.2) (flush_stops c.in_err-next.field-0.0 g.F.Follower.follows c.args.port.now
    c.flush_step-next.new.port c.args.follower.now c.known.ensures.port c.known-2.ensures.port
    c.flush_step-next.ensures.flushes)

pub returns-in_err-follow-clause-does : goal.returns-in_err-follow-clause-does
returns-in_err-follow-clause-does g c =
    let p = err_from_is_err_and c.from_residual-in_err-follow.result c.from_residual-in_err-follow.ensures.1 in
    let w = c.flush_step-next.new in
    rw (p.1, p.2) (memory_stops c.in_err-follow.field-0.0 (c.args.step ∷ [])
    (line_at c.args.port.now c.args.putter.now c.args.line.now) (line_at w.port w.putter w.line) c.args.run
    c.in_err-follow.ensures.err)

pub returns-in_err-follow-clause-follows : goal.returns-in_err-follow-clause-follows
returns-in_err-follow-clause-follows g c =
    let p = err_from_is_err_and c.from_residual-in_err-follow.result c.from_residual-in_err-follow.ensures.1 in
    rw (p.1, p.2) (follower_stops c.in_err-follow.field-0.0 g.F.Follower.follows c.args.port.now
    c.flush_step-next.new.port c.args.follower.now c.follow.new.self c.in_err-follow.ensures.err)

pub returns-clause-does : goal.returns-clause-does
returns-clause-does g c = c.in_ok-next.ensures.does

pub returns-clause-follows : goal.returns-clause-follows
returns-clause-follows g c =
    goes_once g.F.Follower.follows c.args.port.now c.flush_step-next.new.port c.args.follower.now c.follow.new.self
    c.known.ensures.port c.known-2.ensures.port c.flush_step-next.ensures.flushes c.in_ok-follow.ensures.ok
