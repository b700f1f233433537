use Rattle.std.proofs.Common.{◌≡◌, ◌<◌, ◌∙◌, ℕ, length, map, sym, ap, subst}
use Rattle.std.specs.Prelude.{All}
use Rattle.std.proofs.lemmas.List.{length-map}
use Rattle.std.proofs.lemmas.Result.{IfOk-weaker}
use Rattle.tty_calls.specs.declared.sessions.Session.{Session}
use Rattle.tty_calls.specs.Sessions.{session_of}
use Rattle.derived_session.specs.Steps.{derived_of, passings_of, phases_steps, scripts_in}
use Rattle.modem_text.specs.Events.{logged_of}
use Rattle.modem_text.specs.Sessions.{modem_session_of, part_of}
use Rattle.modem_one.specs.Played.{derived_with, all_passed}
use Rattle.modem_derived.specs.Blocks.{own_of}
use Rattle.modem_derived.proofs.Derived.{derived_are, passings_are}
use Rattle.modem_derived.proofs.Listed.{on_ports, scripts_on_ports}
use Rattle.modem_derived.proofs.sessions.derive_session.Goals as goal
use Rattle.modem_derived.proofs.sessions.derive_session.Goals.{After-as_slice-4}
use Rattle.order_laws.specs.Sessions.{journal_on}
use Rattle.passed_ports.proofs.Joining.{single_still}

pub derive-requires-clause-scripts : goal.derive-requires-clause-scripts
derive-requires-clause-scripts c =
    let kept = c.args.session.now in
    scripts_on_ports (session_of kept.session) (map part_of kept.parts.items) c.requires.within

pub derive-requires-clause-others : goal.derive-requires-clause-others
derive-requires-clause-others c =
    let kept = c.args.session.now in
    let base = session_of kept.session in
    subst (λ bs. All (λ blocks. All (λ b. b.port < base.ports) blocks.items) bs) (sym c.as_slice-3.ensures.value)
    (on_ports base.ports (length base.phases) kept.parts.items c.in_ok-carriers.carriers.items c.in_ok-carriers.ensures)

-- the calls that no port sees, the blocks of `carrier`, and what was passed down, as they were handed on
placed_are : (c : After-as_slice-4)
    → map (λ s. s.now) c.as_slice-2.result.now ≡ map own_of c.args.session.now.parts.items
placed_are c =
    ap (map (λ s. s.now)) c.as_slice-2.ensures.value
    ∙ (c.in_ok-placed.ensures ∙ ap (map own_of) c.as_slice.ensures)

others_are : (c : After-as_slice-4)
    → map (λ b. b.items) c.as_slice-3.result.now ≡ map (λ b. b.items) c.in_ok-carriers.carriers.items
others_are c = ap (map (λ b. b.items)) c.as_slice-3.ensures.value

lists_are : (c : After-as_slice-4)
    → map (λ d. d.items) c.as_slice-4.result.now ≡ map (λ d. d.items) c.in_ok-passed.passed.items
lists_are c = ap (map (λ d. d.items)) c.as_slice-4.ensures.value

-- what each port was passed
each_is : (c : After-as_slice-4) (p : ℕ)
    → passings_of
    (scripts_in
    (phases_steps (map own_of c.args.session.now.parts.items) (map (λ b. b.items) c.in_ok-carriers.carriers.items) 0
    (session_of c.args.session.now.session).phases))
    (map (λ d. d.items) c.in_ok-passed.passed.items) p
    ≡ all_passed (modem_session_of c.args.session.now) (map logged_of c.args.log.now) p (journal_on c.args.runs.now p)
each_is c p =
    let kept = c.args.session.now in
    let base = session_of kept.session in
    let vs = c.in_ok-passed.passed.items in
    passings_are base kept.parts.items (map (λ b. b.items) c.in_ok-carriers.carriers.items) c.in_ok-carriers.ensures
    c.requires.within (session_of c.args.base.now) c.requires.base (map logged_of c.args.log.now) c.args.runs.now
    (map (λ d. d.items) vs) c.requires.runs c.requires.log
    (length-map vs (λ d. d.items) ∙ c.in_ok-passed.ensures.many) c.in_ok-passed.ensures.each p

pub derive-requires-clause-single : goal.derive-requires-clause-single
derive-requires-clause-single c =
    let kept = c.args.session.now in
    let base = session_of kept.session in
    single_still
    (passings_of
    (scripts_in (phases_steps (map (λ s. s.now) c.as_slice-2.result.now) (map (λ b. b.items) c.as_slice-3.result.now) 0
    base.phases))
    (map (λ d. d.items) c.as_slice-4.result.now))
    (λ p. all_passed (modem_session_of kept) (map logged_of c.args.log.now) p (journal_on c.args.runs.now p))
    (λ p.
    (λ i. passings_of (scripts_in (phases_steps (placed_are c i) (others_are c i) 0 base.phases)) (lists_are c i) p)
    ∙ each_is c p) c.requires.passed

pub returns : goal.returns
returns c =
    let kept = c.args.session.now in
    let base = session_of kept.session in
    let log = map logged_of c.args.log.now in
    let runs = c.args.runs.now in
    let handed = (goal.at.returns c).After-as_slice-4 in
    IfOk-weaker c.derive.result
    (λ (derived : Session).
    session_of derived
    ≡ derived_of base
    (phases_steps (map (λ s. s.now) c.as_slice-2.result.now) (map (λ b. b.items) c.as_slice-3.result.now) 0 base.phases)
    (map (λ d. d.items) c.as_slice-4.result.now))
    (λ (derived : Session). session_of derived ≡ derived_with (modem_session_of kept) log runs)
    (λ derived is.
    is
    ∙ ((λ i.
    derived_of base (phases_steps (placed_are handed i) (others_are handed i) 0 base.phases) (lists_are handed i))
    ∙ derived_are base kept.parts.items (map (λ b. b.items) c.in_ok-carriers.carriers.items) c.in_ok-carriers.ensures
    c.requires.within (session_of c.args.base.now) c.requires.base log runs
    (map (λ d. d.items) c.in_ok-passed.passed.items) (each_is handed))) c.derive.ensures
