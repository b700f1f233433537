-- A port with modem lines at the end of its phases.
use Rattle.std.proofs.Common.{◌≡◌, ◌<◌, ℕ, length, sym, ◌∙◌, subst}
use Rattle.tty_calls.specs.declared.sessions.Session.{Session}
use Rattle.tty_calls.specs.Sessions.{PlainSession, session_of}
use Rattle.play_base.specs.Beginning.{IsAtPhaseIn}
use Rattle.play_base.specs.Roles.{Scene, scene_of}
use Rattle.play_base.specs.Scenes.{HasAnyOrder}
use Rattle.play_base.proofs.PortLemmas.{phases_over}
use Rattle.order_laws.proofs.Shapes.{phases_same}
use Rattle.order_laws.specs.Witness.{scene_on}
use Rattle.passed_ports.specs.Ports.{IsSceneOf}
use Rattle.modem_text.specs.Sessions.{ModemSession}
use Rattle.modem_text.specs.Within.{IsModemSessionWithin}
use Rattle.modem_ports.specs.declared.phases.ModemStation.{ModemStation}
use Rattle.modem_derived.specs.Blocks.{nothing_passed}
use Rattle.modem_ports.specs.Ports.{IsModemsEnd}
use Rattle.modem_ports.specs.Between.{IsBetween}
use Rattle.modem_ports.proofs.Casting.{scene_of_session}
use Rattle.modem_one.specs.Played.{by_blocks}

pub scene_of_base : (p : ℕ) (base : Session) (session : ModemSession)
    → session_of base ≡ nothing_passed session
    → IsSceneOf (scene_of p base) (by_blocks session)
scene_of_base p base session is =
    subst (λ (s : PlainSession). IsSceneOf (record { port = p; session = s }) (by_blocks session)) (sym is)
    (scene_of_session p session)

pub ends_modems : (first : Scene) (session : ModemSession) (run : ℕ) (at : ModemStation)
    → IsModemSessionWithin session
    → first.port < session.ports
    → IsBetween first session (length first.session.phases) run at
    → IsModemsEnd first session at.station.port at.station.putter at.station.line run at.desk
ends_modems first session run at limits on_port h =
    record { before = h.before; phase = h.phase; port = h.port; limits = limits; on_port = on_port }

-- some session is at its end there
at_some : (first : Scene) (session : ModemSession) (run : ℕ) (at : ModemStation)
    → (h : IsBetween first session (length first.session.phases) run at)
    → IsAtPhaseIn HasAnyOrder (scene_on first.port h.before.has.session) (length h.before.has.session.phases)
    at.station.port at.station.putter at.station.line run
at_some first session run at h =
    let has = h.before.has in
    let z = scene_on first.port has.session in
    subst (λ (k : ℕ). IsAtPhaseIn HasAnyOrder z k at.station.port at.station.putter at.station.line run)
    (h.phase ∙ sym (phases_same first.port first.session has.session has.like.shape))
    (h.before.each.each z has.like has.agrees).0

pub ready_after : (first : Scene) (session : ModemSession) (run : ℕ) (at : ModemStation)
    → IsBetween first session (length first.session.phases) run at
    → at.station.port.terminal.phase ≡ length at.station.port.counts
ready_after first session run at h = phases_over (scene_on first.port h.before.has.session) at.station.port
    at.station.putter at.station.line run (at_some first session run at h)

pub ready_ring : (first : Scene) (session : ModemSession) (run : ℕ) (at : ModemStation)
    → IsBetween first session (length first.session.phases) run at
    → at.station.putter.ring ≡ at.station.port.flip.ring
ready_ring first session run at h = (at_some first session run at h).has_put.ring

pub ready_sent : (first : Scene) (session : ModemSession) (run : ℕ) (at : ModemStation)
    → IsBetween first session (length first.session.phases) run at
    → at.station.port.terminal.sent ≡ length at.station.putter.sent
ready_sent first session run at h = (at_some first session run at h).sent
