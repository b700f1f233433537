use Rattle.std.proofs.Common.{rules, ◌∙◌, length, sym, subst}
use Rattle.port_core.specs.Ports.{PortValue}
use Rattle.play_base.specs.Putting.{KnowsTaken}
use Rattle.play_base.proofs.Meetings.{knows_met}
use Rattle.tty_port.proofs.Outcomes.{each_ok}
use Rattle.many_threads.proofs.PhaseStart.{can_play_met}
use Rattle.many_threads.proofs.PhaseEnds.{can_finish, leaves_from}
use Rattle.threads_play.proofs.phases.play_shared.Goals as goal

pub play_threads-requires : goal.play_threads-requires
play_threads-requires g c κs within =
    let old = c.args.station in
    let can = c.requires.1.1.1.1 in
    let met = c.meet.ensures.port in
    let now = c.meet.new.putter in
    let knows = subst (λ (x : PortValue). KnowsTaken (length x.flip.taken) now.heads) (sym met)
    (knows_met old.port.flip old.putter now c.meet.ensures.putter) in (
      search rules,
      (
        search rules,
        (
          search rules,
          (
            search rules,
            (can_play_met g.scene old c.meet.new.self now c.args.work met c.meet.ensures.putter can, knows),
          ),
        ),
      ),
    )

pub finish_phase-requires : goal.finish_phase-requires
finish_phase-requires g c =
    let old = c.args.station in
    let left = c.in_ok-left.left in
    can_finish g.scene c.args.work.phase old left c.in_ok-left.end
    (leaves_from g.scene c.args.work.phase old left c.meet.new.self c.meet.new.putter c.in_ok-left.end
    c.meet.ensures.port c.in_ok-left.ensures.left)

pub returns-clause-comes : goal.returns-clause-comes
returns-clause-comes g c =
    let old = c.args.station in
    let left = c.in_ok-left.left in
    c.finish_phase.ensures.comes g.scene old c.args.work c.requires.1.1.1.1
    (leaves_from g.scene c.args.work.phase old left c.meet.new.self c.meet.new.putter c.in_ok-left.end
    c.meet.ensures.port c.in_ok-left.ensures.left)

pub returns-clause-steps : goal.returns-clause-steps
returns-clause-steps g c =
    each_ok c.finish_phase.result _ _ (λ r same. same ∙ c.in_ok-left.ensures.steps) c.finish_phase.ensures.steps
