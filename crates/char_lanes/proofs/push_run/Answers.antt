use Rattle.std.proofs.Common.{ap, subst, take, ◌++◌, ◌∙◌}
use Rattle.std.specs.List.{AllByRecursion}
use Rattle.char_lanes.specs.Runs.{IsInBounds, bytes_in}
use Rattle.char_lanes.proofs.Lanes.{added_both, run_both}
use Rattle.char_lanes.proofs.push_run.Goals as goal

pub returns-clause-run : goal.returns-clause-run
returns-clause-run c =
    let Is = IsInBounds c.args.first c.args.last c.args.without.now in
    run_both Is c.push_eights-eights.result c.push_each.result c.args.chars.now c.push_eights-eights.ensures.run
    (subst (λ l. AllByRecursion Is (take c.push_each.result l)) c.rest_of.ensures c.push_each.ensures.run)

pub returns-clause-items : goal.returns-clause-items
returns-clause-items c =
    added_both c.args.bytes.now.items c.push_eights-eights.new.bytes.items _ c.push_eights-eights.result
    c.push_each.result c.args.chars.now
    c.push_eights-eights.ensures.items
    (c.push_each.ensures.items
    ∙ ap (λ l. c.push_eights-eights.new.bytes.items ++ bytes_in (take c.push_each.result l)) c.rest_of.ensures)
