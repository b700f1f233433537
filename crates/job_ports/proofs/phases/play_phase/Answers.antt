use Rattle.std.proofs.Common.{◌≡◌, ◌==◌, ℕ, List, [], length, map, refl, sym, ap, ◌∙◌, subst, arith}
use Rattle.std.specs.Prelude.{slice_index_or}
use Rattle.std.specs.Vec.{with_items}
use Rattle.std.proofs.lemmas.List.{with_items_is}
use Rattle.tty_calls.specs.declared.sessions.Script.{Script}
use Rattle.tty_calls.specs.Sessions.{session_of, script_of, line_on, ticks_on}
use Rattle.legal_runs.specs.Legal.{phase_at}
use Rattle.play_base.specs.Casting.{AreNumbered, HaveSameCallers, cast_of}
use Rattle.play_base.specs.Roles.{scene_of, role_in}
use Rattle.play_base.specs.declared.roles.Role.{Role}
use Rattle.job_text.specs.Sessions.{jobs_session_of, own_of}
use Rattle.order_laws.specs.Filled.{AreNextSteps}
use Rattle.job_ports.specs.declared.phases.JobStation.{JobStation}
use Rattle.job_ports.specs.Between.{BeginsPhase, IsBetween}
use Rattle.job_ports.proofs.Beginning.{base_within, begins_phase, names_few, numbered_in, steps_known}
use Rattle.job_ports.proofs.phases.play_phase.Goals as goal

pub take_steps-requires-clause-known : goal.take_steps-requires-clause-known
take_steps-requires-clause-known g c =
    let known = steps_known c.args.number c.args.k c.args.run c.args.session.now c.args.at.now c.requires.1.1.1.1 in
    let same = ap (λ (xs : List ℕ). length xs) c.as_mut_slice.ensures.value in
    omega (arith, known, same)

pub take_steps-requires-clause-few : goal.take_steps-requires-clause-few
take_steps-requires-clause-few g c =
    let few =
    names_few c.args.number c.args.k c.args.run c.args.session.now c.args.at.now c.requires.1.0 c.requires.1.1.1.1 in
    let many = c.requires.1.1.1.1.steps in
    let same = ap (λ (xs : List ℕ). length xs) c.as_mut_slice.ensures.value in
    omega (arith, few, many, same)

pub cast_in-requires-clause-numbered : goal.cast_in-requires-clause-numbered
cast_in-requires-clause-numbered g c =
    subst (λ (q : ℕ). AreNumbered c.args.at.now.names q (map script_of c.scripts_of-scripts.result.now))
    (sym c.from-port.ensures)
    (numbered_in c.args.number c.args.k c.args.run c.args.session.now c.args.at.now c.scripts_of-scripts.result.now
    c.requires.1.1.1.0 c.scripts_of-scripts.ensures c.requires.1.1.1.1)

pub cast_in-requires-clause-few : goal.cast_in-requires-clause-few
cast_in-requires-clause-few g c =
    let few =
    names_few c.args.number c.args.k c.args.run c.args.session.now c.args.at.now c.requires.1.0 c.requires.1.1.1.1 in
    omega (arith, few)

pub steps_of-requires-clause-within : goal.steps_of-requires-clause-within
steps_of-requires-clause-within g c = base_within c.args.session.now c.requires.1.0

pub ticks_of-requires-clause-within : goal.ticks_of-requires-clause-within
ticks_of-requires-clause-within g c = base_within c.args.session.now c.requires.1.0

pub play_parts-requires : goal.play_parts-requires
play_parts-requires g c =
    let p = c.args.number in
    let k = c.args.k in
    let kept = c.args.session.now in
    let base = session_of kept.session in
    let at = c.args.at.now in
    let h = c.requires.1.1.1.1 in
    let scripts = c.scripts_of-scripts.result.now in
    let placed = c.own_in-placed.result.now in
    let steps = c.as_slice-2.result.now in
    let roles = c.as_slice-3.result.now in
    let noted = c.take_steps.new.steps in
    let written = with_items_is at.station.steps noted (c.take_steps.auto.steps ∙ c.as_mut_slice.ensures.len) in
    let steps_are : steps ≡ noted = c.as_slice-2.ensures.value ∙ written in
    let old_many : length c.as_mut_slice.result.now ≡ length at.station.steps.items =
    ap (λ (xs : List ℕ). length xs) c.as_mut_slice.ensures.value in
    let next : AreNextSteps at.station.port.terminal (length at.station.steps.items) steps =
    subst (λ (n : ℕ). AreNextSteps at.station.port.terminal n steps) old_many
    (subst (λ (xs : List ℕ). AreNextSteps at.station.port.terminal (length c.as_mut_slice.result.now) xs)
    (sym steps_are) c.take_steps.ensures) in
    let cast : (others : List Script)
    → HaveSameCallers others scripts
    → map (role_in others) roles ≡ cast_of at.names steps p (map script_of others) =
    λ others same.
    ap (λ (rs : List Role). map (role_in others) rs) c.as_slice-3.ensures.value
    ∙ (c.in_ok-roles.ensures.ok others same
    ∙ ap (λ (q : ℕ). cast_of at.names steps q (map script_of others)) c.from-port.ensures) in
    let then_at : JobStation = record {
      names = at.names;
      station = record {
        port = at.station.port;
        putter = at.station.putter;
        line = at.station.line;
        steps = with_items at.station.steps noted;
      };
      desk = at.desk;
    } in
    let then_h : IsBetween (scene_of p kept.session) (jobs_session_of kept) k c.args.run then_at = record {
      before = h.before;
      phase = h.phase;
      port = h.port;
      names = h.names;
      steps = ap (λ (xs : List ℕ). length xs) written ∙ (c.take_steps.auto.steps ∙ (old_many ∙ h.steps));
      procs = h.procs;
    } in
    subst (λ s. BeginsPhase s roles then_at at.station.port.terminal.phase c.args.run c.in_ok-calls.calls
    c.steps_of.result.now.items c.ticks_of.result (c.args.session.now.session.version == 0))
    (sym c.requires.0)
    (begins_phase p k c.args.run kept at then_at scripts placed steps roles c.in_ok-calls.calls
    c.steps_of.result.now.items c.ticks_of.result (c.args.session.now.session.version == 0)
    c.requires.1.0 c.requires.1.1.1.0 h c.scripts_of-scripts.ensures
    (c.own_in-placed.ensures ∙ ap (λ ps. slice_index_or (map own_of ps) k []) c.as_slice.ensures)
    next cast c.in_ok-calls.ensures.ok
    (c.steps_of.ensures.line ∙ ap (λ (q : ℕ). line_on q (phase_at base k)) c.from-port.ensures) c.steps_of.ensures.good
    (c.ticks_of.ensures ∙ ap (λ (q : ℕ). ticks_on q (phase_at base k)) c.from-port.ensures)
    refl then_h refl refl)
