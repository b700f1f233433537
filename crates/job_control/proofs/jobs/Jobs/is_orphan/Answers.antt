use Rattle.std.proofs.Common.{◌≡◌, ◌∙◌, ap}
use Rattle.job_control.specs.Control.{is_orphan}
use Rattle.job_control.specs.Roster.{group_at}
use Rattle.job_control.specs.Keeping.{counted, ties_count}
use Rattle.job_control.proofs.Ties.{orphan_by_count}
use Rattle.job_control.proofs.jobs.Jobs.is_orphan.Goals as goal

pub returns : goal.returns
returns c =
    let procs = c.self.inside.procs.items in
    let group = group_at procs c.args.proc in
    let kept : c.count.result ≡ ties_count procs c.self.inside.exited.items group =
    c.count.ensures
    ∙ (ap (counted c.self.inside.ties)
    (c.from.ensures ∙ (c.group_of.ensures ∙ ap (λ all. group_at all c.args.proc) c.as_slice.ensures.value))
    ∙ c.self.invariant.ties_are group) in
    orphan_by_count procs c.self.inside.exited.items group c.count.result kept
    ∙ ap (λ state. is_orphan state c.args.proc) c.self.view_is
