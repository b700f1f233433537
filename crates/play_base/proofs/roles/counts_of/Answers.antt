use Rattle.std.proofs.Common.{sym, ◌∙◌, subst, All, map}
use Rattle.tty_calls.specs.Limits.{IsPhaseWithin}
use Rattle.tty_calls.specs.Sessions.{phase_of}
use Rattle.play_base.proofs.CastLemmas.{phase_at_index, counts_more}
use Rattle.play_base.proofs.roles.counts_of.Goals as goal

pub count_on-requires : goal.count_on-requires
count_on-requires c =
    (phase_at_index (IsPhaseWithin c.args.session.now.ports) c.as_slice-phase-items.result.now c.loop-phase.phase-index
    c.phase-item.result c.loop-phase-test.true c.phase-item.is
    (subst (λ xs. All (IsPhaseWithin c.args.session.now.ports) (map phase_of xs)) (sym c.as_slice-phase-items.ensures)
    c.requires.phases)).few_callers c.args.port

pub loop-phase-preserved : goal.loop-phase-preserved
loop-phase-preserved c =
    c.in_ok-push.ensures.items
    ∙ counts_more c.args.port c.as_slice-phase-items.result.now c.loop-phase.phase-index c.phase-item.result
    c.loop-phase.counts.items c.count_on.result c.loop-phase-test.true
    c.phase-item.is c.count_on.ensures c.loop-phase.invariant
