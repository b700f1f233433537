use Rattle.std.proofs.Common.{◌≡◌, ℕ, List, [], length, map, refl, sym, ap, ◌∙◌, subst, arith}
use Rattle.std.specs.Prelude.{slice_index_or}
use Rattle.std.specs.Vec.{with_items}
use Rattle.std.proofs.lemmas.List.{with_items_is}
use Rattle.tty_calls.specs.declared.sessions.Script.{Script}
use Rattle.tty_calls.specs.Sessions.{PlainSession, session_of, script_of, line_on, ticks_on}
use Rattle.legal_runs.specs.Legal.{phase_at}
use Rattle.play_base.specs.Casting.{AreNumbered, HaveSameCallers, cast_of}
use Rattle.play_base.specs.Roles.{scene_of, role_in}
use Rattle.play_base.specs.declared.roles.Role.{Role}
use Rattle.calls_left.specs.Remaining.{calls_of_port}
use Rattle.modem_text.specs.declared.sessions.ModemPart.{ModemPart}
use Rattle.modem_text.specs.Sessions.{modem_session_of, step_of}
use Rattle.order_laws.specs.Filled.{AreNextSteps}
use Rattle.modem_ports.specs.declared.phases.ModemStation.{ModemStation}
use Rattle.modem_derived.specs.Blocks.{items_of_port, own_of, pins_of}
use Rattle.modem_ports.specs.Between.{BeginsPhase, IsBetween}
use Rattle.modem_ports.proofs.Beginning.{base_within, begins_phase, names_few, numbered_in, phases_many, steps_known}
use Rattle.modem_ports.proofs.phases.play_phase.Goals as goal

pub take_steps-requires-clause-known : goal.take_steps-requires-clause-known
take_steps-requires-clause-known g c =
    let known = steps_known c.args.number c.args.k c.args.run (session_of c.args.base.now)
    (modem_session_of c.args.session.now) c.args.at.now c.requires.1.1.1.1.1 in
    let same = ap (λ (xs : List ℕ). length xs) c.as_mut_slice.ensures.value in
    omega (arith, known, same)

pub take_steps-requires-clause-few : goal.take_steps-requires-clause-few
take_steps-requires-clause-few g c =
    let few = names_few c.args.number c.args.base.now c.args.at.now.names
    (base_within c.args.session.now c.args.base.now c.requires.1.0 c.requires.1.1.0) c.requires.1.1.1.1.1.names in
    let many = c.requires.1.1.1.1.1.steps in
    let same = ap (λ (xs : List ℕ). length xs) c.as_mut_slice.ensures.value in
    omega (arith, few, many, same)

pub cast_in-requires-clause-numbered : goal.cast_in-requires-clause-numbered
cast_in-requires-clause-numbered g c =
    subst (λ (q : ℕ). AreNumbered c.args.at.now.names q (map script_of c.scripts_of.result.now))
    (sym c.from-port.ensures)
    (subst (λ (ss : List Script). AreNumbered c.args.at.now.names c.args.number (map script_of ss))
    (sym c.scripts_of.ensures)
    (numbered_in c.args.number c.args.k c.args.base.now c.args.at.now.names c.requires.1.1.1.1.0
    c.requires.1.1.1.1.1.names))

pub cast_in-requires-clause-few : goal.cast_in-requires-clause-few
cast_in-requires-clause-few g c =
    let few = names_few c.args.number c.args.base.now c.args.at.now.names
    (base_within c.args.session.now c.args.base.now c.requires.1.0 c.requires.1.1.0) c.requires.1.1.1.1.1.names in
    omega (arith, few)

pub scripts_of-requires-2 : goal.scripts_of-requires-2
scripts_of-requires-2 g c =
    let many = phases_many c.args.session.now in
    let same = ap (λ (s : PlainSession). length s.phases) c.requires.1.1.0 in
    let lt = c.requires.1.1.1.1.0 in
    omega (arith, many, same, lt)

pub steps_of-requires-clause-within : goal.steps_of-requires-clause-within
steps_of-requires-clause-within g c = base_within c.args.session.now c.args.base.now c.requires.1.0 c.requires.1.1.0

pub ticks_of-requires-clause-within : goal.ticks_of-requires-clause-within
ticks_of-requires-clause-within g c = base_within c.args.session.now c.args.base.now c.requires.1.0 c.requires.1.1.0

pub play_parts-requires : goal.play_parts-requires
play_parts-requires g c =
    let p = c.args.number in
    let k = c.args.k in
    let kept = c.args.session.now in
    let base = c.args.base.now in
    let at = c.args.at.now in
    let h = c.requires.1.1.1.1.1 in
    let scripts = c.scripts_of.result.now in
    let placed = c.own_in.result.now in
    let steps = c.as_slice.result.now in
    let roles = c.as_slice-3.result.now in
    let noted = c.take_steps.new.steps in
    let written = with_items_is at.station.steps noted (c.take_steps.auto.steps ∙ c.as_mut_slice.ensures.len) in
    let steps_are : steps ≡ noted = c.as_slice.ensures.value ∙ written in
    let old_many : length c.as_mut_slice.result.now ≡ length at.station.steps.items =
    ap (λ (xs : List ℕ). length xs) c.as_mut_slice.ensures.value in
    let next : AreNextSteps at.station.port.terminal (length at.station.steps.items) steps =
    subst (λ (n : ℕ). AreNextSteps at.station.port.terminal n steps) old_many
    (subst (λ (xs : List ℕ). AreNextSteps at.station.port.terminal (length c.as_mut_slice.result.now) xs)
    (sym steps_are) c.take_steps.ensures) in
    let cast : (others : List Script)
    → HaveSameCallers others scripts
    → map (role_in others) roles ≡ cast_of at.names steps p (map script_of others) =
    λ others same.
    ap (λ (rs : List Role). map (role_in others) rs) c.as_slice-3.ensures.value
    ∙ (c.in_ok-roles.ensures.ok others same
    ∙ ap (λ (q : ℕ). cast_of at.names steps q (map script_of others)) c.from-port.ensures) in
    let then_at : ModemStation = record {
      names = at.names;
      station = record {
        port = at.station.port;
        putter = at.station.putter;
        line = at.station.line;
        steps = with_items at.station.steps noted;
      };
      desk = at.desk;
    } in
    let then_h : IsBetween (scene_of p base) (modem_session_of kept) k c.args.run then_at = record {
      before = h.before;
      phase = h.phase;
      port = h.port;
      names = h.names;
      steps = ap (λ (xs : List ℕ). length xs) written ∙ (c.take_steps.auto.steps ∙ (old_many ∙ h.steps));
    } in
    let parts = c.as_slice-parts.ensures in
    subst (λ s. BeginsPhase s roles then_at at.station.port.terminal.phase c.args.run c.in_ok-calls.calls
    c.of-items.result c.steps_of.result.now.items c.ticks_of.result)
    (sym c.requires.0)
    (begins_phase p k c.args.run kept base at then_at steps roles c.in_ok-calls.calls c.of-items.result
    c.steps_of.result.now.items c.ticks_of.result c.requires.1.0 c.requires.1.1.0 c.requires.1.1.1.0
    c.requires.1.1.1.1.0
    h next
    (subst (λ (ss : List Script).
    (others : List Script)
    → HaveSameCallers others ss
    → map (role_in others) roles ≡ cast_of at.names steps p (map script_of others)) c.scripts_of.ensures cast)
    (c.in_ok-calls.ensures.ok
    ∙ (λ i. calls_of_port p (c.scripts_of-2.ensures i)
    ((c.own_in.ensures ∙ ap (λ (ps : List ModemPart). slice_index_or (map own_of ps) k []) parts) i)))
    (c.of-items.ensures
    ∙ ap (map step_of)
    (c.as_slice-2.ensures.value
    ∙ (c.in_ok-pins.ensures.ok
    ∙ ap (λ (ps : List ModemPart). items_of_port p (slice_index_or (map pins_of ps) k [])) parts)))
    (c.steps_of.ensures.line ∙ ap (λ (q : ℕ). line_on q (phase_at (session_of base) k)) c.from-port.ensures)
    c.steps_of.ensures.good
    (c.ticks_of.ensures ∙ ap (λ (q : ℕ). ticks_on q (phase_at (session_of base) k)) c.from-port.ensures)
    then_h refl refl)
