use Rattle.std.proofs.Common.{arith, ap, sym, ◌∙◌}
use Rattle.calls_left.proofs.Mixed.{starts, no_cursors, own_cursor, other_script, all_cursors}
use Rattle.calls_left.proofs.remaining.cursors_of.Goals as goal
use Rattle.calls_left.proofs.remaining.cursors_of.Goals.{then-script-port+in_ok-push, else-script-port}

pub loop-place-preserved : goal.loop-place-preserved
loop-place-preserved g c =
    let scripts = c.args.scripts.now in
    let placed = c.args.placed.now in
    let at = c.loop-place in
    let made = c.if-script-port in
    let s = c.index-scripts-place.result in
    elim c.if-script-port.branch [
      | then-script-port+in_ok-push w ↦
          own_cursor c.args.port scripts placed at.cursors.items made.cursors.items at.place at.first made.first s
          w.beginning.result at.invariant c.loop-place-test.true c.index-scripts-place.is
          (w.first-is ∙ c.end_of-end.ensures.end) (omega (arith, w.first-is, c.end_of-end.ensures.within))
          w.if-script-port.true (w.beginning.ensures ∙ ap (starts at.place at.first) (sym w.first-is))
          (ap (λ v. v.items) w.cursors-is ∙ w.in_ok-push.ensures.items)
      | else-script-port w ↦
          other_script c.args.port scripts placed at.cursors.items made.cursors.items at.place at.first made.first s
          at.invariant c.loop-place-test.true c.index-scripts-place.is
          (w.first-is ∙ c.end_of-end.ensures.end) (omega (arith, w.first-is, c.end_of-end.ensures.within))
          w.if-script-port.false (ap (λ v. v.items) w.cursors-is)
    ]

pub loop-place-init : goal.loop-place-init
loop-place-init g c =
    no_cursors c.args.port c.args.scripts.now c.args.placed.now c.new-cursors.result.items c.new-cursors.ensures.items

pub returns : goal.returns
returns g c =
    record {
      calls = all_cursors c.args.port c.args.scripts.now c.args.placed.now c.loop-place.cursors.items c.loop-place.place
          c.loop-place.first c.loop-place.invariant (omega (arith, c.loop-place-test.false));
      marked = c.loop-place.invariant.marked;
    }
