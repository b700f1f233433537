use Rattle.std.proofs.Common.{map}
use Rattle.job_control.proofs.Beginning.{kept_at_first, view_at_first}
use Rattle.job_control.proofs.jobs.Jobs.new.Goals as goal

pub invariant_of-result : goal.invariant_of-result
invariant_of-result c =
    kept_at_first c.args.procs.now c.in_ok-kept.kept.items c.in_ok-exited.exited.items c.as_slice.result.now
    c.as_slice-2.result.now c.in_ok-given_up_at.given_up_at.items
    c.in_ok-ties.ties c.in_ok-living.living (map (λ list. list.items) c.in_ok-children.children.items) c.requires
    c.in_ok-kept.ensures c.in_ok-exited.ensures c.in_ok-given_up_at.ensures
    c.as_slice.ensures.value c.as_slice-2.ensures.value c.in_ok-ties.ensures c.in_ok-living.ensures.counts
    c.in_ok-living.ensures.fits c.in_ok-children.ensures

pub returns : goal.returns
returns c =
    view_at_first c.args.procs.now c.in_ok-kept.kept.items c.in_ok-exited.exited.items
    c.in_ok-given_up_at.given_up_at.items
    c.in_ok-kept.ensures c.in_ok-exited.ensures c.in_ok-given_up_at.ensures
