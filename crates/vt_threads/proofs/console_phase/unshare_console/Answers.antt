use Rattle.std.proofs.Common.{refl}
use Rattle.play_base.specs.declared.stations.Station.{Station}
use Rattle.many_threads.proofs.PhaseEnds.{can_finish}
use Rattle.vt_threads.proofs.Halves.{half_comes, half_leaves, other_steps}
use Rattle.vt_threads.proofs.console_phase.unshare_console.Goals as goal

pub unshare-requires : goal.unshare-requires
unshare-requires c =
    let some = c.requires in
    (half_comes some.s some.old some.work c.args.shared some.dealt some.line some.putter c.args.session c.args.back
    some.over c.in_ok-taken.taken c.in_ok-taken.ensures).seats

pub finish_phase-requires : goal.finish_phase-requires
finish_phase-requires c =
    let some = c.requires in
    let taken = c.in_ok-taken.taken in
    let port = c.in_ok-port.port in
    let left : Station = record { port = port; putter = taken.putter; line = taken.line; steps = some.old.steps } in
    let now : Station = record { port = port; putter = taken.putter; line = taken.line; steps = c.args.steps } in
    can_finish some.s some.work.phase some.old now taken.end
    (other_steps some.s some.work.phase some.old left now taken.end refl refl refl
    (half_leaves some.s some.old some.work c.args.shared some.dealt some.line some.putter c.args.session c.args.back
    some.over taken port c.in_ok-taken.ensures c.in_ok-port.ensures))

pub returns-clause-comes : goal.returns-clause-comes
returns-clause-comes c s old work dealt line putter over =
    let taken = c.in_ok-taken.taken in
    let port = c.in_ok-port.port in
    let left : Station = record { port = port; putter = taken.putter; line = taken.line; steps = old.steps } in
    let now : Station = record { port = port; putter = taken.putter; line = taken.line; steps = c.args.steps } in
    c.finish_phase.ensures.comes s old work over.can
    (other_steps s work.phase old left now taken.end refl refl refl
    (half_leaves s old work c.args.shared dealt line putter c.args.session c.args.back
    over taken port c.in_ok-taken.ensures c.in_ok-port.ensures))
