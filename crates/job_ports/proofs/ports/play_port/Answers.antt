use Rattle.std.proofs.Common.{ℕ, map, sym, subst}
use Rattle.std.proofs.lemmas.Result.{IfOk-weaker}
use Rattle.tty_calls.specs.declared.answers.Denied.{Denied}
use Rattle.tty_calls.specs.declared.answers.Denied.TheVariants.{Full}
use Rattle.tty_calls.specs.Sessions.{session_of}
use Rattle.play_base.specs.Roles.{scene_of}
use Rattle.job_text.specs.Events.{logged_of}
use Rattle.job_text.specs.Sessions.{jobs_session_of, own_of}
use Rattle.job_one.specs.Events.{AreOn}
use Rattle.job_ports.specs.declared.ports.PortPlayed.{PortPlayed}
use Rattle.job_ports.specs.Between.{IsStoppedBy}
use Rattle.job_ports.proofs.Casting.{scene_of_session}
use Rattle.job_ports.proofs.Ended.{ends_jobs, ready_after, ready_ring, ready_sent}
use Rattle.job_ports.proofs.ports.play_port.Goals as goal

pub end-requires-clause-after : goal.end-requires-clause-after
end-requires-clause-after c = ready_after (scene_of c.args.number c.args.session.now.session)
    (jobs_session_of c.args.session.now) c.in-Ok.field-0 c.play_phases.new.at c.in-Ok.ensures.ok

pub end-requires-clause-ring : goal.end-requires-clause-ring
end-requires-clause-ring c = ready_ring (scene_of c.args.number c.args.session.now.session)
    (jobs_session_of c.args.session.now) c.in-Ok.field-0 c.play_phases.new.at c.in-Ok.ensures.ok

pub end-requires-clause-sent : goal.end-requires-clause-sent
end-requires-clause-sent c = ready_sent (scene_of c.args.number c.args.session.now.session)
    (jobs_session_of c.args.session.now) c.in-Ok.field-0 c.play_phases.new.at c.in-Ok.ensures.ok

pub cut-requires : goal.cut-requires
cut-requires c =
    let kept = c.args.session.now in
    let full : IsStoppedBy Full (scene_of c.args.number kept.session) (jobs_session_of kept) c.play_phases.new.at =
    subst
    (λ (d : Denied). IsStoppedBy d (scene_of c.args.number kept.session) (jobs_session_of kept) c.play_phases.new.at)
    c.in-Err-Full.field-0-is c.in-Err-Full.ensures.err in
    full.ring

pub returns-in-Ok : goal.returns-in-Ok
returns-in-Ok c =
    let p = c.args.number in
    let kept = c.args.session.now in
    let first = scene_of p kept.session in
    let session = jobs_session_of kept in
    let at = c.play_phases.new.at in
    record {
      played = c.end.ensures.played first session c.in-Ok.field-0
          (scene_of_session p (session_of kept.session) kept.procs.items (map own_of kept.parts.items))
          (ends_jobs first session c.in-Ok.field-0 at c.in-Ok.ensures.ok);
      own = IfOk-weaker c.end.result (λ (played : PortPlayed). AreOn at.desk.number (map logged_of played.log.items))
          (λ (played : PortPlayed). AreOn p (map logged_of played.log.items))
          (λ played on. subst (λ (q : ℕ). AreOn q (map logged_of played.log.items))
          (sym c.in-Ok.ensures.ok.before.date.stands.number) on) c.end.ensures.own;
    }

pub returns-in-Err-Full : goal.returns-in-Err-Full
returns-in-Err-Full c =
    let p = c.args.number in
    let kept = c.args.session.now in
    let first = scene_of p kept.session in
    let session = jobs_session_of kept in
    let at = c.play_phases.new.at in
    let full : IsStoppedBy Full first session at =
    subst (λ (d : Denied). IsStoppedBy d first session at) c.in-Err-Full.field-0-is c.in-Err-Full.ensures.err in
    record {
      played = c.cut.ensures.played first session
          (scene_of_session p (session_of kept.session) kept.procs.items (map own_of kept.parts.items)) full;
      own = subst (λ (q : ℕ). AreOn q (map logged_of c.cut.result.log.items)) (sym full.number) c.cut.ensures.own;
    }
