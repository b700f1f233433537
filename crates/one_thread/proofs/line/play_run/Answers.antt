use Rattle.std.proofs.Common.{List, length, take, sym, ◌∙◌, ap, subst, arith, length-drop}
use Rattle.std.proofs.lemmas.List.{drop-map, length-map}
use Rattle.std.proofs.lemmas.Result.{err_from_is_err_and}
use Rattle.tty_base.specs.declared.characters.Flag.TheVariants.{Normal}
use Rattle.tty_base.specs.declared.lines.LineStep.{LineStep}
use Rattle.line_steps.specs.Steps.{rx_step}
use Rattle.uart_line.specs.GoodSteps.{good_steps}
use Rattle.one_thread.specs.LineInside.{line_at, PlaysSteps, StopsSteps, StandsBefore}
use Rattle.one_thread.proofs.GoingAlong.{goes_none, goes_more, stops_more}
use Rattle.one_thread.proofs.LineLoop.{plays_none, plays_from, plays_to_end, stops_from, stands_from}
use Rattle.one_thread.proofs.line.play_run.Goals as goal

pub loop-at-init : goal.loop-at-init
loop-at-init g c = record {
  plays = plays_none (line_at c.args.port.now c.args.putter.now c.args.line.now) c.args.run;
  within = omega arith;
  goes = goes_none g.F.Follower.follows c.args.port.now c.args.follower.now;
}

pub play_window-requires-clause-stands : goal.play_window-requires-clause-stands
play_window-requires-clause-stands g c =
    let bytes = c.args.bytes.now in
    let l = c.loop-at in
    let left = ap good_steps c.rest_of.ensures ∙ sym (drop-map (rx_step Normal) l.at bytes) in
    subst (λ (steps : List LineStep). StandsBefore steps (line_at l.port l.putter l.line) l.next) (sym left)
    (stands_from (good_steps bytes) l.at (line_at c.args.port.now c.args.putter.now c.args.line.now)
    (line_at l.port l.putter l.line) c.args.run l.next l.invariant.plays c.requires.stands)

pub returns-in_err-passed-clause-does : goal.returns-in_err-passed-clause-does
returns-in_err-passed-clause-does g c =
    let p = err_from_is_err_and c.from_residual.result c.from_residual.ensures.1 in
    let bytes = c.args.bytes.now in
    let l = c.loop-at in
    let left = ap good_steps c.rest_of.ensures ∙ sym (drop-map (rx_step Normal) l.at bytes) in
    let d = c.in_err-passed.field-0.0 in
    let w = c.play_window.new in
    rw (p.1, p.2) (stops_from (good_steps bytes) l.at (line_at c.args.port.now c.args.putter.now c.args.line.now)
    (line_at l.port l.putter l.line) c.args.run l.next l.invariant.plays d (line_at w.port w.putter w.line)
    (subst (λ (steps : List LineStep).
    StopsSteps d steps (line_at l.port l.putter l.line) (line_at w.port w.putter w.line) l.next)
    left c.in_err-passed.ensures.does))

pub returns-in_err-passed-clause-follows : goal.returns-in_err-passed-clause-follows
returns-in_err-passed-clause-follows g c =
    let p = err_from_is_err_and c.from_residual.result c.from_residual.ensures.1 in
    let l = c.loop-at in
    let w = c.play_window.new in
    rw (p.1, p.2) (stops_more g.F.Follower.follows c.args.port.now l.port c.args.follower.now l.follower
    l.invariant.goes c.in_err-passed.field-0.0 w.port w.follower c.in_err-passed.ensures.follows)

pub loop-at-preserved : goal.loop-at-preserved
loop-at-preserved g c =
    let bytes = c.args.bytes.now in
    let l = c.loop-at in
    let left = ap good_steps c.rest_of.ensures ∙ sym (drop-map (rx_step Normal) l.at bytes) in
    let passed = c.in_ok-passed.passed in
    let w = c.play_window.new in
    record {
      plays = plays_from (good_steps bytes) l.at (line_at c.args.port.now c.args.putter.now c.args.line.now)
          (line_at l.port l.putter l.line) c.args.run l.next l.invariant.plays
          passed.steps (line_at w.port w.putter w.line) passed.run
          (subst (λ (steps : List LineStep). PlaysSteps (take passed.steps steps) (line_at l.port l.putter l.line)
          (line_at w.port w.putter w.line) l.next passed.run) left c.in_ok-passed.ensures.does);
      within = omega (
        arith,
        l.invariant.within,
        c.in_ok-passed.ensures.within,
        ap length c.rest_of.ensures,
        length-drop l.at bytes,
      );
      goes = goes_more g.F.Follower.follows c.args.port.now l.port c.args.follower.now l.follower l.invariant.goes
          w.port w.follower c.in_ok-passed.ensures.follows;
    }

pub returns-clause-does : goal.returns-clause-does
returns-clause-does g c =
    let bytes = c.args.bytes.now in
    let l = c.loop-at in
    plays_to_end (good_steps bytes) l.at (line_at c.args.port.now c.args.putter.now c.args.line.now)
    (line_at l.port l.putter l.line) c.args.run l.next
    l.invariant.plays (omega (arith, c.loop-at-test.false, length-map bytes (rx_step Normal)))

pub returns-clause-follows : goal.returns-clause-follows
returns-clause-follows g c = c.loop-at.invariant.goes
