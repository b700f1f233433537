use Rattle.std.proofs.Common.{arith}
use Rattle.char_lanes.proofs.Between.{all_sixteen, some_of_sixteen}
use Rattle.char_lanes.proofs.sixteen_between.Goals as goal

pub returns-then-stops-eq0-clause-run : goal.returns-then-stops-eq0-clause-run
returns-then-stops-eq0-clause-run c =
    all_sixteen c.args.first c.args.last c.args.bytes.now c.args.from c.requires.order c.ranges.last.fits
    c.requires.room (λ k. (c.type_inv.bytes k).fits)
    c.outside-stops.result c.outside-stops.ensures c.if-stops-eq0.true

pub returns-else-stops-eq0-clause-within : goal.returns-else-stops-eq0-clause-within
returns-else-stops-eq0-clause-within c =
    (some_of_sixteen c.args.first c.args.last c.args.bytes.now c.args.from c.requires.order c.ranges.last.fits
    c.requires.room (λ k. (c.type_inv.bytes k).fits)
    c.outside-stops.result c.outside-stops.ensures (omega (arith, c.if-stops-eq0.false))).0

pub returns-else-stops-eq0-clause-run : goal.returns-else-stops-eq0-clause-run
returns-else-stops-eq0-clause-run c =
    (some_of_sixteen c.args.first c.args.last c.args.bytes.now c.args.from c.requires.order c.ranges.last.fits
    c.requires.room (λ k. (c.type_inv.bytes k).fits)
    c.outside-stops.result c.outside-stops.ensures (omega (arith, c.if-stops-eq0.false))).1
