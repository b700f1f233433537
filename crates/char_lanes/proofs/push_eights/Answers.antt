use Rattle.std.proofs.Common.{ap, subst, ◌++◌, ◌∙◌, arith}
use Rattle.std.specs.List.{AllByRecursion}
use Rattle.char_lanes.specs.Runs.{IsInBounds, bytes_in}
use Rattle.char_lanes.proofs.Lanes.{added_both, run_both}
use Rattle.char_lanes.proofs.push_eights.Goals as goal

pub loop-count-preserved : goal.loop-count-preserved
loop-count-preserved c =
    let cs = c.args.chars.now in
    let more = c.push_eight-taken.ensures in
    let taken = c.if-not-taken.false in
    let Is = IsInBounds c.args.first c.args.last c.args.without.now in
    let before = c.loop-count.invariant in
    record {
      within = omega (arith, c.loop-count-test.true);
      run = run_both Is c.loop-count.count 8 cs before.run
          (subst (AllByRecursion Is) c.eight_of.ensures (more.run taken));
      items = added_both c.args.bytes.now.items c.loop-count.bytes.items _ c.loop-count.count 8 cs before.items
          (more.items taken ∙ ap (λ l. c.loop-count.bytes.items ++ bytes_in l) c.eight_of.ensures);
      len = omega (arith, before.len, more.len taken);
      capacity = omega (arith, before.capacity, more.capacity);
    }
