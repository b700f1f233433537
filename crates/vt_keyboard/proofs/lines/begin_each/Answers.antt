use Rattle.std.proofs.Common.{◌≤◌, ◌<◌, length, arith}
use Rattle.vt_keyboard.specs.Keying.{BeginsKeys, CanBegin}
use Rattle.vt_keyboard.proofs.AllLines.{changes_none, changes_more, changes_all, holds_next}
use Rattle.vt_keyboard.proofs.lines.begin_each.Goals as goal

pub loop-p-init : goal.loop-p-init
loop-p-init c = record { within = omega arith; so_far = changes_none BeginsKeys c.args.lines.now c.args.ends.now }

pub begin_at-requires-clause-can : goal.begin_at-requires-clause-can
begin_at-requires-clause-can c =
    let lt : c.loop-p.p < length c.args.lines.now = omega arith in
    holds_next BeginsKeys CanBegin c.loop-p.p c.args.lines.now c.loop-p.lines c.args.ends.now c.loop-p.ends
    lt c.requires.each c.requires.can c.loop-p.invariant.so_far

pub begin_at-requires-clause-line : goal.begin_at-requires-clause-line
begin_at-requires-clause-line c = omega (arith, c.loop-p.invariant.so_far.lines_of)

pub begin_at-requires-clause-end : goal.begin_at-requires-clause-end
begin_at-requires-clause-end c = omega (arith, c.loop-p.invariant.so_far.ends_of, c.requires.each)

pub loop-p-preserved : goal.loop-p-preserved
loop-p-preserved c =
    let lt : c.loop-p.p < length c.args.lines.now = omega arith in
    record {
      within = omega (arith, lt);
      so_far = changes_more BeginsKeys c.loop-p.p c.args.lines.now c.loop-p.lines c.begin_at.new.lines c.args.ends.now
          c.loop-p.ends c.begin_at.new.ends lt c.requires.each c.loop-p.invariant.so_far c.begin_at.ensures;
    }

pub returns : goal.returns
returns c =
    let over : length c.args.lines.now ≤ c.loop-p.p = omega arith in
    changes_all BeginsKeys c.loop-p.p c.args.lines.now c.loop-p.lines
    c.args.ends.now c.loop-p.ends over c.loop-p.invariant.so_far
