use Rattle.std.proofs.Common.{◌≡◌, refl, subst}
use Rattle.play_base.specs.declared.stations.Station.{Station}
use Rattle.many_threads.specs.PhaseEnds.{CanFinish, EndsOrStops, PhaseComes, ThreadsLeave}
use Rattle.many_threads.proofs.PhaseEnds.{phase_comes}
use Rattle.many_threads.proofs.Onward.{kept_ok, beside_ok}
use Rattle.many_threads.proofs.shared_phase.finish_phase.Goals as goal

pub end_phase-end-requires-clause-may : goal.end_phase-end-requires-clause-may
end_phase-end-requires-clause-may c = (subst (CanFinish c.args.left) c.in-Over.is c.requires).0

pub end_phase-end-requires-clause-ring : goal.end_phase-end-requires-clause-ring
end_phase-end-requires-clause-ring c = (subst (CanFinish c.args.left) c.in-Over.is c.requires).1

pub returns-clause-comes : goal.returns-clause-comes
returns-clause-comes c s old work can leaves =
    let left = c.args.left in
    let port = c.end_phase-end.new.port in
    let putter = c.end_phase-end.new.putter in
    let next = c.in-Over.next in
    let ended : Station = record { port = port; putter = putter; line = left.line; steps = left.steps } in
    beside_ok c.beside.result ended c.end_phase-end.result (PhaseComes s work.phase old)
    (EndsOrStops left.port port left.putter putter next) c.beside.ensures.kept
    c.beside.ensures.made c.end_phase-end.ensures
    (λ end. phase_comes s old left port putter work next end can
    (subst (ThreadsLeave s work.phase old left) c.in-Over.is leaves))

pub returns-clause-steps : goal.returns-clause-steps
returns-clause-steps c =
    let left = c.args.left in
    let ended : Station = record {
      port = c.end_phase-end.new.port;
      putter = c.end_phase-end.new.putter;
      line = left.line;
      steps = left.steps;
    } in
    kept_ok c.beside.result ended (λ (station : Station). station.steps ≡ left.steps) c.beside.ensures.kept refl
