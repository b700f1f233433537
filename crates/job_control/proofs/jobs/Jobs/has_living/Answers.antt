use Rattle.std.proofs.Common.{◌≡◌, ◌∙◌, ap}
use Rattle.job_control.specs.Roster.{has_living}
use Rattle.job_control.specs.Keeping.{counted, key_of, living_count}
use Rattle.job_control.proofs.Ties.{living_by_count}
use Rattle.job_control.proofs.jobs.Jobs.has_living.Goals as goal

pub returns : goal.returns
returns c =
    let procs = c.self.inside.procs.items in
    let exited = c.self.inside.exited.items in
    let kept : c.count.result ≡ living_count procs exited (key_of c.args.session c.args.group) =
    c.count.ensures
    ∙ (ap (counted c.self.inside.living) c.key.ensures
    ∙ c.self.invariant.living_are (key_of c.args.session c.args.group)) in
    living_by_count procs exited c.args.session c.args.group c.count.result
    c.self.invariant.groups_fit c.ranges.group.fits kept
    ∙ ap (λ state. has_living state.procs state.exited c.args.session c.args.group) c.self.view_is
