use Rattle.std.proofs.Common.{◌≡◌, List, map, ap, ◌∙◌}
use Rattle.tty_calls.specs.declared.sessions.Phase.{Phase}
use Rattle.tty_calls.specs.Sessions.{session_of, phase_of}
use Rattle.derived_session.specs.Steps.{phases_steps}
use Rattle.derived_session.specs.Making.{PortState, phases_made}
use Rattle.derived_session.proofs.Deriving.{derived_phases}
use Rattle.derived_session.proofs.Making.{derived_is, steps_good}
use Rattle.derived_session.proofs.sessions.derive.Goals as goal

pub returns : goal.returns
returns g c =
    let session = session_of c.args.session.now in
    let placed = map (λ s. s.now) c.args.placed.now in
    let others = map (λ b. b.items) c.args.others.now in
    let passed = map (λ d. d.items) c.args.passed.now in
    let phases = phases_steps placed others 0 session.phases in
    let made : map phase_of c.in_ok-phases.phases.items ≡ phases_made c.in_ok-ports.ports.items phases =
    c.in_ok-phases.ensures
    ∙ (ap (λ (ps : List PortState). phases_made ps (phases_steps placed others 0 (map phase_of c.as_slice.result.now)))
    c.deref_mut.ensures.value
    ∙ ap (λ (ps : List Phase). phases_made c.in_ok-ports.ports.items (phases_steps placed others 0 (map phase_of ps)))
    c.as_slice.ensures) in
    derived_is session phases passed c.in_ok-copy.field-0.items _ c.in_ok-copy.ensures
    (made
    ∙ derived_phases phases passed session.ports c.in_ok-ports.ports.items c.requires.single
    (steps_good session.ports 0 session.phases placed c.args.others.now c.requires.scripts c.requires.others)
    c.in_ok-ports.ensures)
