use Rattle.std.proofs.Common.{length, subst}
use Rattle.play_base.specs.Phases.{IsPortOf, IsFullRun}
use Rattle.many_threads.specs.InPlay.{IsBeforePhase, WerePlayedBefore}
use Rattle.many_threads.specs.declared.shared_phase.PhaseEnd.{PhaseEnd}
use Rattle.many_threads.proofs.Onward.{at_end_of}
use Rattle.many_threads.proofs.port_ends.end_port.Goals as goal

pub returns-in-Over : goal.returns-in-Over
returns-in-Over c s stands =
    let station = c.args.station in
    let before : IsBeforePhase s (length s.session.phases) station c.in-Over.field-0 =
    subst (λ (end : PhaseEnd). WerePlayedBefore s (length s.session.phases) station end) c.in-Over.is stands in
    c.hang_up.ensures.played s (at_end_of s station c.in-Over.field-0 before)

pub returns : goal.returns
returns c s stands =
    let station = c.args.station in
    let full : IsPortOf s station.port × IsFullRun s station.port station.putter station.line =
    subst (λ (end : PhaseEnd). WerePlayedBefore s (length s.session.phases) station end) c.in-Full.is stands in
    c.stop.ensures.played s full.0 full.1
