use Rattle.std.proofs.Common.{◌+◌, IsTrue, map, drop, get_or, subst, arith}
use Rattle.std.proofs.lemmas.List.{get_or-map, length-map}
use Rattle.std.proofs.lemmas.List.Elements.{All-get_or}
use Rattle.std.proofs.lemmas.Result.{err_from_is_err_and}
use Rattle.tty_base.specs.declared.lines.LineStep.{LineStep}
use Rattle.tty_base.specs.Lines.{is_step}
use Rattle.line_steps.specs.Steps.{rx_step}
use Rattle.one_thread.specs.LineInside.{line_at}
use Rattle.one_thread.proofs.GoingAlong.{goes_none, goes_more, stops_more}
use Rattle.one_thread.proofs.LineLoop.{run_from, stands_at, plays_none, plays_next, plays_to_end, stops_next}
use Rattle.one_thread.proofs.line.play_flagged.Goals as goal

pub loop-place-init : goal.loop-place-init
loop-place-init g c = record {
  plays = plays_none (line_at c.args.port.now c.args.putter.now c.args.line.now) c.args.run;
  goes = goes_none g.F.Follower.follows c.args.port.now c.args.follower.now;
}

pub play_step-requires-clause-good : goal.play_step-requires-clause-good
play_step-requires-clause-good g c =
    let step = rx_step c.args.flag in
    let bytes = c.args.bytes.now in
    let place = c.loop-place.place in
    let here = step (get_or bytes place 0) in
    subst (λ (s : LineStep). IsTrue (is_step s)) (get_or-map step bytes place 0 here c.loop-place-test.true)
    (All-get_or (λ s. IsTrue (is_step s)) (map step bytes) place here
    (omega (arith, c.loop-place-test.true, length-map bytes step)) c.requires.good)

pub play_step-requires-clause-stands : goal.play_step-requires-clause-stands
play_step-requires-clause-stands g c =
    let steps = map (rx_step c.args.flag) c.args.bytes.now in
    let place = c.loop-place.place in
    let l = c.loop-place in
    stands_at steps place (rx_step c.args.flag (get_or c.args.bytes.now place 0)) (drop (place + 1) steps)
    (run_from c.args.flag c.args.bytes.now place c.loop-place-test.true)
    (line_at c.args.port.now c.args.putter.now c.args.line.now) (line_at l.port l.putter l.line) c.args.run l.next
    l.invariant.plays c.requires.stands

pub returns-in_err-next-clause-does : goal.returns-in_err-next-clause-does
returns-in_err-next-clause-does g c =
    let p = err_from_is_err_and c.from_residual.result c.from_residual.ensures.1 in
    let steps = map (rx_step c.args.flag) c.args.bytes.now in
    let place = c.loop-place.place in
    let l = c.loop-place in
    let w = c.play_step.new in
    rw (p.1, p.2) (stops_next steps place (rx_step c.args.flag (get_or c.args.bytes.now place 0))
    (drop (place + 1) steps) (run_from c.args.flag c.args.bytes.now place c.loop-place-test.true)
    (line_at c.args.port.now c.args.putter.now c.args.line.now) (line_at l.port l.putter l.line) c.args.run l.next
    l.invariant.plays c.in_err-next.field-0.0 (line_at w.port w.putter w.line) c.in_err-next.ensures.does)

pub returns-in_err-next-clause-follows : goal.returns-in_err-next-clause-follows
returns-in_err-next-clause-follows g c =
    let p = err_from_is_err_and c.from_residual.result c.from_residual.ensures.1 in
    let l = c.loop-place in
    let w = c.play_step.new in
    rw (p.1, p.2) (stops_more g.F.Follower.follows c.args.port.now l.port c.args.follower.now l.follower
    l.invariant.goes c.in_err-next.field-0.0 w.port w.follower c.in_err-next.ensures.follows)

pub loop-place-preserved : goal.loop-place-preserved
loop-place-preserved g c =
    let steps = map (rx_step c.args.flag) c.args.bytes.now in
    let place = c.loop-place.place in
    let l = c.loop-place in
    let w = c.play_step.new in
    record {
      plays = plays_next steps place (rx_step c.args.flag (get_or c.args.bytes.now place 0)) (drop (place + 1) steps)
          (run_from c.args.flag c.args.bytes.now place c.loop-place-test.true)
          (line_at c.args.port.now c.args.putter.now c.args.line.now) (line_at l.port l.putter l.line) c.args.run l.next
          l.invariant.plays (line_at w.port w.putter w.line) c.in_ok-next.next c.in_ok-next.ensures.does;
      goes = goes_more g.F.Follower.follows c.args.port.now l.port c.args.follower.now l.follower l.invariant.goes
          w.port w.follower c.in_ok-next.ensures.follows;
    }

pub returns-clause-does : goal.returns-clause-does
returns-clause-does g c =
    let steps = map (rx_step c.args.flag) c.args.bytes.now in
    let l = c.loop-place in
    plays_to_end steps l.place (line_at c.args.port.now c.args.putter.now c.args.line.now)
    (line_at l.port l.putter l.line) c.args.run l.next
    l.invariant.plays (omega (arith, c.loop-place-test.false, length-map c.args.bytes.now (rx_step c.args.flag)))

pub returns-clause-follows : goal.returns-clause-follows
returns-clause-follows g c = c.loop-place.invariant.goes
