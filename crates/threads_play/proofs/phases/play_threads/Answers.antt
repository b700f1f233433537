use Rattle.std.proofs.Common.{sym, subst}
use Rattle.tty_port.specs.Calls.{PortSeat}
use Rattle.many_threads.specs.declared.crew.Crew.{Crew}
use Rattle.many_threads.specs.Crew.{CanRun, crew_in, seats_of}
use Rattle.many_threads.specs.Seats.{AreDealt}
use Rattle.many_threads.specs.PhaseEnds.{ThreadsCome}
use Rattle.many_threads.proofs.PhaseStart.{few_in_cast, can_run}
use Rattle.many_threads.proofs.PhaseAccount.{dealt_to, threads_leave}
use Rattle.threads_play.proofs.phases.play_threads.Goals as goal

pub share-requires : goal.share-requires
share-requires g c = few_in_cast g.scene c.args.station c.args.work c.requires.1.1.1.1.0

pub play_together-requires-clause-can : goal.play_together-requires-clause-can
play_together-requires-clause-can g c κs within =
    let dealt = c.in_ok-shared.dealt in
    subst (CanRun c.in_ok-shared.shared) (sym c.crew_of-crew.ensures.crew)
    (can_run g.scene c.in_ok-shared.shared c.args.station c.args.work dealt c.requires.1.1.1.1.0 c.in_ok-shared.ensures)

pub play_together-requires-clause-dealt : goal.play_together-requires-clause-dealt
play_together-requires-clause-dealt g c κs within =
    let p = c.in_ok-shared.shared in
    let dealt = c.in_ok-shared.dealt in
    let old = c.args.station in
    subst (λ (seat : PortSeat). AreDealt p (seats_of c.crew_of-crew.result.0 seat)) (sym c.crew_of-crew.ensures.session)
    (subst (λ (crew : Crew). AreDealt p (seats_of crew dealt.session)) (sym c.crew_of-crew.ensures.crew)
    (dealt_to p dealt old.line old.putter c.args.work c.in_ok-shared.ensures.dealt))

pub returns-clause-left : goal.returns-clause-left
returns-clause-left g c =
    let p = c.in_ok-shared.shared in
    let dealt = c.in_ok-shared.dealt in
    let back = c.in_ok-back.back in
    let can = c.requires.1.1.1.1 in
    let come : ThreadsCome p (crew_in dealt c.args.station.line c.args.station.putter c.args.work) back =
    subst (λ (crew : Crew). ThreadsCome p crew back) c.crew_of-crew.ensures.crew c.in_ok-back.ensures in
    threads_leave g.scene p c.args.station c.args.work dealt c.in_ok-port.port back
    can.0 can.1 c.in_ok-shared.ensures come c.in_ok-port.ensures
