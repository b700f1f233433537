-- A port of a session of processes at the end of its phases.
use Rattle.std.proofs.Common.{◌≡◌, ℕ, length, sym, ◌∙◌, subst}
use Rattle.play_base.specs.Beginning.{IsAtPhase}
use Rattle.play_base.specs.Roles.{Scene}
use Rattle.play_base.proofs.PortLemmas.{phases_over}
use Rattle.order_laws.proofs.Shapes.{phases_same}
use Rattle.job_text.specs.Sessions.{JobsSession}
use Rattle.order_laws.specs.Witness.{scene_on}
use Rattle.job_ports.specs.declared.phases.JobStation.{JobStation}
use Rattle.job_ports.specs.Ports.{IsJobsEnd}
use Rattle.job_ports.specs.Between.{IsBetween}

pub ends_jobs : (first : Scene) (session : JobsSession) (run : ℕ) (at : JobStation)
    → IsBetween first session (length first.session.phases) run at
    → IsJobsEnd first session at.station.port at.station.putter at.station.line run at.desk
ends_jobs first session run at h = record { before = h.before; phase = h.phase; port = h.port }

-- some session is at its end there
at_some : (first : Scene) (session : JobsSession) (run : ℕ) (at : JobStation)
    → (h : IsBetween first session (length first.session.phases) run at)
    → IsAtPhase (scene_on first.port h.before.has.session) (length h.before.has.session.phases)
    at.station.port at.station.putter at.station.line run
at_some first session run at h =
    let has = h.before.has in
    let z = scene_on first.port has.session in
    subst (λ (k : ℕ). IsAtPhase z k at.station.port at.station.putter at.station.line run)
    (h.phase ∙ sym (phases_same first.port first.session has.session has.like.shape))
    (h.before.each.each z has.like has.agrees).0

pub ready_after : (first : Scene) (session : JobsSession) (run : ℕ) (at : JobStation)
    → IsBetween first session (length first.session.phases) run at
    → at.station.port.terminal.phase ≡ length at.station.port.counts
ready_after first session run at h = phases_over (scene_on first.port h.before.has.session) at.station.port
    at.station.putter at.station.line run (at_some first session run at h)

pub ready_ring : (first : Scene) (session : JobsSession) (run : ℕ) (at : JobStation)
    → IsBetween first session (length first.session.phases) run at
    → at.station.putter.ring ≡ at.station.port.flip.ring
ready_ring first session run at h = (at_some first session run at h).has_put.ring

pub ready_sent : (first : Scene) (session : JobsSession) (run : ℕ) (at : JobStation)
    → IsBetween first session (length first.session.phases) run at
    → at.station.port.terminal.sent ≡ length at.station.putter.sent
ready_sent first session run at h = (at_some first session run at h).sent
