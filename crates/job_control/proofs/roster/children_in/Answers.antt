use Rattle.std.proofs.Common.{◌<◌, ◌∙◌, ap, length, map, arith}
use Rattle.job_control.proofs.Children.{child_listed, with_child_long}
use Rattle.job_control.proofs.roster.children_in.Goals as goal

pub loop-place-preserved : goal.loop-place-preserved
loop-place-preserved c =
    let lists = map (λ list. list.items) c.loop-place.lists.items in
    let long = c.loop-place.invariant.0 in (
      ap length c.in_ok-add_child.ensures ∙ (with_child_long lists c.parent_of.result c.loop-place.place ∙ long),
      λ p within.
          let there : p < length lists = omega (arith, long, within) in
          child_listed c.args.procs.now lists _ c.parent_of.result c.loop-place.place
          p there c.parent_of.ensures c.in_ok-add_child.ensures
          (c.loop-place.invariant.1 p within),
    )
