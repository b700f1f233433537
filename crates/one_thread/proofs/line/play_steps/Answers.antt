use Rattle.std.proofs.Common.{IsTrue, [], sym}
use Rattle.std.proofs.lemmas.Result.{err_from_is_err_and}
use Rattle.tty_base.specs.Lines.{is_step}
use Rattle.uart_line.specs.Received.{closed_script}
use Rattle.one_thread.specs.LineInside.{line_at}
use Rattle.one_thread.proofs.GoingAlong.{goes_none, goes_more, stops_more, follows_more}
use Rattle.one_thread.proofs.LineLoop.{good_part, stands_in_part, plays_none, plays_part, stops_in_part}
use Rattle.one_thread.proofs.LineLoop.{plays_parts, does_more, stands_on}
use Rattle.one_thread.proofs.line.play_steps.Goals as goal

pub loop-part-init : goal.loop-part-init
loop-part-init g c = record {
  plays = plays_none (line_at c.args.port.now c.args.putter.now c.args.line.now) c.args.run;
  goes = goes_none g.F.Follower.follows c.args.port.now c.args.follower.now;
}

pub play_part-requires-clause-good : goal.play_part-requires-clause-good
play_part-requires-clause-good g c =
    good_part c.parts-part-items.result.now c.args.steps.now.items c.parts-part-items.ensures c.loop-part.part-index
    c.part-item.result c.loop-part-test.true (sym c.part-item.is)
    (λ step. IsTrue (is_step step)) c.requires.good

pub play_part-requires-clause-stands : goal.play_part-requires-clause-stands
play_part-requires-clause-stands g c =
    let l = c.loop-part in
    stands_in_part c.parts-part-items.result.now c.args.steps.now.items c.parts-part-items.ensures
    l.part-index c.part-item.result c.loop-part-test.true (sym c.part-item.is)
    (line_at c.args.port.now c.args.putter.now c.args.line.now) (line_at l.port l.putter l.line) c.args.run l.next
    l.invariant.plays c.requires.stands

pub returns-in_err-next-clause-does : goal.returns-in_err-next-clause-does
returns-in_err-next-clause-does g c =
    let p = err_from_is_err_and c.from_residual.result c.from_residual.ensures.1 in
    let l = c.loop-part in
    let w = c.play_part.new in
    rw (p.1, p.2) (stops_in_part c.parts-part-items.result.now c.args.steps.now.items c.parts-part-items.ensures
    l.part-index c.part-item.result c.loop-part-test.true (sym c.part-item.is)
    (line_at c.args.port.now c.args.putter.now c.args.line.now) (line_at l.port l.putter l.line) c.args.run l.next
    l.invariant.plays c.in_err-next.field-0.0 (line_at w.port w.putter w.line) c.in_err-next.ensures.does)

pub returns-in_err-next-clause-follows : goal.returns-in_err-next-clause-follows
returns-in_err-next-clause-follows g c =
    let p = err_from_is_err_and c.from_residual.result c.from_residual.ensures.1 in
    let l = c.loop-part in
    let w = c.play_part.new in
    rw (p.1, p.2) (stops_more g.F.Follower.follows c.args.port.now l.port c.args.follower.now l.follower
    l.invariant.goes c.in_err-next.field-0.0 w.port w.follower c.in_err-next.ensures.follows)

pub loop-part-preserved : goal.loop-part-preserved
loop-part-preserved g c =
    let l = c.loop-part in
    let w = c.play_part.new in
    record {
      plays = plays_part c.parts-part-items.result.now c.args.steps.now.items c.parts-part-items.ensures
          l.part-index c.part-item.result c.loop-part-test.true (sym c.part-item.is)
          (line_at c.args.port.now c.args.putter.now c.args.line.now) (line_at l.port l.putter l.line) c.args.run l.next
          l.invariant.plays (line_at w.port w.putter w.line) c.in_ok-next.next c.in_ok-next.ensures.does;
      goes = goes_more g.F.Follower.follows c.args.port.now l.port c.args.follower.now l.follower l.invariant.goes
          w.port w.follower c.in_ok-next.ensures.follows;
    }

pub close-requires : goal.close-requires
close-requires g c =
    let l = c.loop-part in
    let old = line_at c.args.port.now c.args.putter.now c.args.line.now in
    let mid = line_at l.port l.putter l.line in
    let played = plays_parts c.parts-part-items.result.now c.args.steps.now.items l.part-index old mid c.args.run l.next
    c.parts-part-items.ensures c.loop-part-test.false l.invariant.plays in
    record {
      stands = stands_on c.args.steps.now.items (closed_script []) old mid c.args.run l.next played c.requires.stands;
    }

pub returns-clause-does : goal.returns-clause-does
returns-clause-does g c =
    let l = c.loop-part in
    let old = line_at c.args.port.now c.args.putter.now c.args.line.now in
    let mid = line_at l.port l.putter l.line in
    let played = plays_parts c.parts-part-items.result.now c.args.steps.now.items l.part-index old mid c.args.run l.next
    c.parts-part-items.ensures c.loop-part-test.false l.invariant.plays in
    let w = c.close.new in
    does_more c.args.steps.now.items (closed_script []) old mid c.args.run l.next played
    (line_at w.port w.putter w.line) c.close.result c.close.ensures.does

pub returns-clause-follows : goal.returns-clause-follows
returns-clause-follows g c =
    let l = c.loop-part in
    let w = c.close.new in
    follows_more g.F.Follower.follows c.args.port.now l.port c.args.follower.now l.follower l.invariant.goes
    w.port w.follower c.close.result c.close.ensures.follows
