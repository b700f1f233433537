use Rattle.std.proofs.Common.{[], ◌∷◌}
use Rattle.std.proofs.lemmas.Result.{err_from_is_err_and}
use Rattle.tty_base.specs.declared.lines.LineStep.TheVariants.{Idle, Unmask}
use Rattle.one_thread.specs.LineInside.{line_at}
use Rattle.one_thread.proofs.GoingAlong.{follows_more}
use Rattle.one_thread.proofs.LineLoop.{stands_first, stands_on, stops_early, does_more}
use Rattle.one_thread.proofs.line.close.Goals as goal

pub play_step-requires-clause-stands : goal.play_step-requires-clause-stands
play_step-requires-clause-stands g c =
    stands_first (Unmask ∷ []) (Idle 4 ∷ []) (line_at c.args.port.now c.args.putter.now c.args.line.now) c.args.run
    c.requires.stands

pub returns-in_err-next-clause-does : goal.returns-in_err-next-clause-does
returns-in_err-next-clause-does g c =
    let p = err_from_is_err_and c.from_residual.result c.from_residual.ensures.1 in
    let w = c.play_step.new in
    rw (p.1, p.2) (stops_early c.in_err-next.field-0.0 (Unmask ∷ []) (Idle 4 ∷ [])
    (line_at c.args.port.now c.args.putter.now c.args.line.now) (line_at w.port w.putter w.line) c.args.run
    c.in_err-next.ensures.does)

pub returns-in_err-next-clause-follows : goal.returns-in_err-next-clause-follows
returns-in_err-next-clause-follows g c =
    let p = err_from_is_err_and c.from_residual.result c.from_residual.ensures.1 in
    rw (p.1, p.2) c.in_err-next.ensures.follows

pub play_step-requires-2-clause-stands : goal.play_step-requires-2-clause-stands
play_step-requires-2-clause-stands g c =
    let w = c.play_step.new in
    stands_on (Unmask ∷ []) (Idle 4 ∷ []) (line_at c.args.port.now c.args.putter.now c.args.line.now)
    (line_at w.port w.putter w.line) c.args.run c.in_ok-next.next c.in_ok-next.ensures.does c.requires.stands

pub returns-clause-does : goal.returns-clause-does
returns-clause-does g c =
    let w = c.play_step.new in
    let x = c.play_step-2.new in
    does_more (Unmask ∷ []) (Idle 4 ∷ []) (line_at c.args.port.now c.args.putter.now c.args.line.now)
    (line_at w.port w.putter w.line) c.args.run c.in_ok-next.next c.in_ok-next.ensures.does
    (line_at x.port x.putter x.line) c.play_step-2.result c.play_step-2.ensures.does

pub returns-clause-follows : goal.returns-clause-follows
returns-clause-follows g c =
    let w = c.play_step.new in
    let x = c.play_step-2.new in
    follows_more g.F.Follower.follows c.args.port.now w.port c.args.follower.now w.follower c.in_ok-next.ensures.follows
    x.port x.follower c.play_step-2.result c.play_step-2.ensures.follows
