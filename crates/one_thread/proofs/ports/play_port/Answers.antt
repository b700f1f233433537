use Rattle.std.proofs.Common.{subst}
use Rattle.tty_calls.specs.declared.answers.Denied.{Denied}
use Rattle.tty_calls.specs.declared.answers.Denied.TheVariants.{Full}
use Rattle.play_base.specs.Roles.{scene_of}
use Rattle.play_base.specs.Phases.{IsStopped}
use Rattle.play_base.proofs.PortLemmas.{phases_over, at_end_of, port_of_scene, full_in_order}
use Rattle.one_thread.proofs.ports.play_port.Goals as goal

pub hang_up-requires-clause-after : goal.hang_up-requires-clause-after
hang_up-requires-clause-after c =
    let v = c.play_phases.new.station in
    phases_over (scene_of c.args.number c.args.session.now) v.port
    v.putter v.line c.in-Ok.field-0 c.in-Ok.ensures.ok.at_phase

pub stop-requires : goal.stop-requires
stop-requires c =
    let s = scene_of c.args.number c.args.session.now in
    let station = c.play_phases.new.station in
    let full : IsStopped Full s station =
    subst (λ (d : Denied). IsStopped d s station) c.in-Err-Full.field-0-is c.in-Err-Full.ensures.err in
    full.1.has_put.ring

pub returns-in-Ok : goal.returns-in-Ok
returns-in-Ok c =
    let s = scene_of c.args.number c.args.session.now in
    let v = c.play_phases.new.station in
    let before = c.in-Ok.ensures.ok in
    record {
      played = c.hang_up.ensures.played s
          (at_end_of s v.port v.putter v.line c.in-Ok.field-0 before.at_phase before.played.played);
      in_order = c.hang_up.ensures.in_order s before.at_phase.of_scene before.at_phase.phase before.played.see_all;
    }

pub returns-in-Err-Full : goal.returns-in-Err-Full
returns-in-Err-Full c =
    let s = scene_of c.args.number c.args.session.now in
    let station = c.play_phases.new.station in
    let full : IsStopped Full s station =
    subst (λ (d : Denied). IsStopped d s station) c.in-Err-Full.field-0-is c.in-Err-Full.ensures.err in
    record {
      played = c.stop.ensures.played s (port_of_scene s station.port full.0) full.1;
      in_order = full_in_order s station.port c.stop.result.0 full.0 c.stop.ensures.journal full.1.full;
    }
