use Rattle.std.proofs.Common.{◌-◌}
use Rattle.std.specs.Prelude.{count_by}
use Rattle.job_control.specs.Roster.{ties_group}
use Rattle.job_control.specs.Keeping.{counted}
use Rattle.job_control.proofs.Children.{untied, none_left}
use Rattle.job_control.proofs.roster.untie.Goals as goal

pub returns : goal.returns
returns c = λ group.
    untied c.args.procs.now c.args.exited.now c.args.children.now c.args.gone group (counted c.args.ties.now group)
    (counted c.untie_one.new.ties group)
    (counted c.loop-child.ties group) c.requires.within c.requires.children (c.untie_one.ensures group)
    (none_left (ties_group c.args.procs.now c.args.exited.now group) c.args.children.now c.loop-child.child-index
    (counted c.loop-child.ties group)
    (counted c.untie_one.new.ties group
    - count_by (ties_group c.args.procs.now c.args.exited.now group) c.args.children.now)
    c.loop-child-test.false (c.loop-child.invariant group))
