use Rattle.std.proofs.Common.{arith, length, List, ◌<◌, subst, sym}
use Rattle.vt_text.specs.declared.sessions.VtPhase.{VtPhase}
use Rattle.vt_play.proofs.Phasing.{phase_below}
use Rattle.vt_play.proofs.Threads.{next_first_is}
use Rattle.vt_play.proofs.phases.next_first.Goals as goal

pub at-phase-requires : goal.at-phase-requires
at-phase-requires c = subst (λ (l : List VtPhase). c.args.of.k < length l) (sym c.as_slice-phases.ensures)
    (phase_below c.args.of.session.now c.args.of.k c.requires.phase.within c.requires.phase.below)

pub overflow_cast-result : goal.overflow_cast-result
overflow_cast-result c =
    let n = next_first_is c.args.of c.as_slice-phases.result.now c.at-phase.result.now c.len.result c.requires.phase
    c.requires.first c.as_slice-phases.ensures c.at-phase.ensures c.len.ensures in
    let few = n.1 in
    omega (arith, few)

pub overflow_add-result : goal.overflow_add-result
overflow_add-result c =
    let n = next_first_is c.args.of c.as_slice-phases.result.now c.at-phase.result.now c.len.result c.requires.phase
    c.requires.first c.as_slice-phases.ensures c.at-phase.ensures c.len.ensures in
    let few = n.1 in
    omega (arith, few)

pub returns : goal.returns
returns c = (next_first_is c.args.of c.as_slice-phases.result.now c.at-phase.result.now c.len.result c.requires.phase
    c.requires.first c.as_slice-phases.ensures c.at-phase.ensures c.len.ensures).0
