use Rattle.std.proofs.Common.{◌≤◌, ◌<◌, length, arith}
use Rattle.vt_keyboard.specs.Keying.{EndsKeys, CanTakeKeys}
use Rattle.vt_keyboard.proofs.AllLines.{changes_none, changes_more, changes_all, holds_next}
use Rattle.vt_keyboard.proofs.lines.end_each.Goals as goal

pub loop-p-init : goal.loop-p-init
loop-p-init c = record { within = omega arith; so_far = changes_none EndsKeys c.args.lines.now c.args.ends.now }

pub end_at-requires-clause-can : goal.end_at-requires-clause-can
end_at-requires-clause-can c =
    let lt : c.loop-p.p < length c.args.lines.now = omega arith in
    holds_next EndsKeys (CanTakeKeys 0) c.loop-p.p c.args.lines.now c.loop-p.lines c.args.ends.now c.loop-p.ends
    lt c.requires.each c.requires.can c.loop-p.invariant.so_far

pub end_at-requires-clause-line : goal.end_at-requires-clause-line
end_at-requires-clause-line c = omega (arith, c.loop-p.invariant.so_far.lines_of)

pub end_at-requires-clause-end : goal.end_at-requires-clause-end
end_at-requires-clause-end c = omega (arith, c.loop-p.invariant.so_far.ends_of, c.requires.each)

pub loop-p-preserved : goal.loop-p-preserved
loop-p-preserved c =
    let lt : c.loop-p.p < length c.args.lines.now = omega arith in
    record {
      within = omega (arith, lt);
      so_far = changes_more EndsKeys c.loop-p.p c.args.lines.now c.loop-p.lines c.end_at.new.lines c.args.ends.now
          c.loop-p.ends c.end_at.new.ends lt c.requires.each c.loop-p.invariant.so_far c.end_at.ensures;
    }

pub returns : goal.returns
returns c =
    let over : length c.args.lines.now ≤ c.loop-p.p = omega arith in
    changes_all EndsKeys c.loop-p.p c.args.lines.now c.loop-p.lines
    c.args.ends.now c.loop-p.ends over c.loop-p.invariant.so_far
