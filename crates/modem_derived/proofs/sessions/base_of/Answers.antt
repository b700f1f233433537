use Rattle.std.proofs.Common.{◌≡◌, ◌<◌, ◌∙◌, [], length, map, sym, ap, arith, subst}
use Rattle.std.specs.Prelude.{All}
use Rattle.std.proofs.lemmas.Result.{IfOk-weaker}
use Rattle.tty_calls.specs.declared.sessions.Session.{Session}
use Rattle.tty_calls.specs.Sessions.{session_of}
use Rattle.derived_session.specs.Steps.{derived_of, phases_steps}
use Rattle.modem_text.specs.Sessions.{modem_session_of, part_of}
use Rattle.modem_derived.specs.Blocks.{nothing_passed, own_of}
use Rattle.modem_derived.proofs.Derived.{bare_is}
use Rattle.modem_derived.proofs.Listed.{on_ports, scripts_on_ports}
use Rattle.modem_derived.proofs.sessions.base_of.Goals as goal

pub derive-requires-clause-scripts : goal.derive-requires-clause-scripts
derive-requires-clause-scripts c =
    let kept = c.args.session.now in
    scripts_on_ports (session_of kept.session) (map part_of kept.parts.items) c.requires

pub derive-requires-clause-others : goal.derive-requires-clause-others
derive-requires-clause-others c =
    let kept = c.args.session.now in
    let base = session_of kept.session in
    subst (λ bs. All (λ blocks. All (λ b. b.port < base.ports) blocks.items) bs) (sym c.as_slice-3.ensures.value)
    (on_ports base.ports (length base.phases) kept.parts.items c.in_ok-carriers.carriers.items c.in_ok-carriers.ensures)

pub derive-requires-clause-single : goal.derive-requires-clause-single
derive-requires-clause-single c = λ p caller step. omega arith

pub returns : goal.returns
returns c =
    let kept = c.args.session.now in
    let base = session_of kept.session in
    let parts = kept.parts.items in
    let placed = map (λ s. s.now) c.as_slice-2.result.now in
    let others = map (λ b. b.items) c.as_slice-3.result.now in
    let carriers = map (λ b. b.items) c.in_ok-carriers.carriers.items in
    let placed_are : placed ≡ map own_of parts =
    ap (map (λ s. s.now)) c.as_slice-2.ensures.value
    ∙ (c.in_ok-placed.ensures ∙ ap (map own_of) c.as_slice.ensures) in
    let others_are : others ≡ carriers = ap (map (λ b. b.items)) c.as_slice-3.ensures.value in
    IfOk-weaker c.derive.result
    (λ (derived : Session). session_of derived ≡ derived_of base (phases_steps placed others 0 base.phases) [])
    (λ (derived : Session). session_of derived ≡ nothing_passed (modem_session_of kept))
    (λ derived is.
    is
    ∙ ((λ i. derived_of base (phases_steps (placed_are i) (others_are i) 0 base.phases) [])
    ∙ bare_is base parts carriers c.in_ok-carriers.ensures)) c.derive.ensures
