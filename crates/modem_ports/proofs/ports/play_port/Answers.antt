use Rattle.std.proofs.Common.{◌<◌, ℕ, map, sym, subst}
use Rattle.std.proofs.lemmas.Result.{IfOk-weaker}
use Rattle.tty_calls.specs.declared.answers.Denied.{Denied}
use Rattle.tty_calls.specs.declared.answers.Denied.TheVariants.{Full}
use Rattle.tty_calls.specs.Sessions.{PlainSession}
use Rattle.play_base.specs.Roles.{scene_of}
use Rattle.modem_text.specs.Events.{logged_of}
use Rattle.modem_text.specs.Sessions.{modem_session_of}
use Rattle.modem_one.specs.Desk.{AreOn}
use Rattle.modem_ports.specs.declared.ports.PortPlayed.{PortPlayed}
use Rattle.modem_ports.specs.Between.{IsStoppedBy}
use Rattle.modem_ports.proofs.Ended.{ends_modems, ready_after, ready_ring, ready_sent, scene_of_base}
use Rattle.modem_ports.proofs.ports.play_port.Goals as goal

pub end-requires-clause-after : goal.end-requires-clause-after
end-requires-clause-after c = ready_after (scene_of c.args.number c.args.base.now)
    (modem_session_of c.args.session.now) c.in-Ok.field-0 c.play_phases.new.at c.in-Ok.ensures.ok

pub end-requires-clause-ring : goal.end-requires-clause-ring
end-requires-clause-ring c = ready_ring (scene_of c.args.number c.args.base.now)
    (modem_session_of c.args.session.now) c.in-Ok.field-0 c.play_phases.new.at c.in-Ok.ensures.ok

pub end-requires-clause-sent : goal.end-requires-clause-sent
end-requires-clause-sent c = ready_sent (scene_of c.args.number c.args.base.now)
    (modem_session_of c.args.session.now) c.in-Ok.field-0 c.play_phases.new.at c.in-Ok.ensures.ok

pub cut-requires : goal.cut-requires
cut-requires c =
    let first = scene_of c.args.number c.args.base.now in
    let session = modem_session_of c.args.session.now in
    let full : IsStoppedBy Full first session c.play_phases.new.at =
    subst (λ (d : Denied). IsStoppedBy d first session c.play_phases.new.at) c.in-Err-Full.field-0-is
    c.in-Err-Full.ensures.err in
    full.ring

pub returns-in-Ok : goal.returns-in-Ok
returns-in-Ok c =
    let p = c.args.number in
    let first = scene_of p c.args.base.now in
    let session = modem_session_of c.args.session.now in
    let at = c.play_phases.new.at in
    record {
      played = c.end.ensures.played first session c.in-Ok.field-0
          (scene_of_base p c.args.base.now session c.requires.base)
          (ends_modems first session c.in-Ok.field-0 at c.requires.within
          (subst (λ (s : PlainSession). p < s.ports) c.requires.base c.requires.port) c.in-Ok.ensures.ok);
      own = IfOk-weaker c.end.result (λ (played : PortPlayed). AreOn at.desk.number (map logged_of played.log.items))
          (λ (played : PortPlayed). AreOn p (map logged_of played.log.items))
          (λ played on. subst (λ (q : ℕ). AreOn q (map logged_of played.log.items))
          (sym c.in-Ok.ensures.ok.before.desk.number) on) c.end.ensures.own;
    }

pub returns-in-Err-Full : goal.returns-in-Err-Full
returns-in-Err-Full c =
    let p = c.args.number in
    let first = scene_of p c.args.base.now in
    let session = modem_session_of c.args.session.now in
    let at = c.play_phases.new.at in
    let full : IsStoppedBy Full first session at =
    subst (λ (d : Denied). IsStoppedBy d first session at) c.in-Err-Full.field-0-is c.in-Err-Full.ensures.err in
    record {
      played = c.cut.ensures.played first session (scene_of_base p c.args.base.now session c.requires.base) full;
      own = subst (λ (q : ℕ). AreOn q (map logged_of c.cut.result.log.items)) (sym full.number) c.cut.ensures.own;
    }
