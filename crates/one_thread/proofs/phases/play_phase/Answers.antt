use Rattle.std.proofs.Common.{◌≡◌, ◌+◌, ◌<◌, ℕ, List, length, map, sym, ap, ◌∙◌, subst}
use Rattle.std.specs.Prelude.{All}
use Rattle.std.specs.Vec.{with_items}
use Rattle.std.proofs.lemmas.List.{with_items_is}
use Rattle.play_base.specs.Roles.{PlainRole, role_in, AreFirstSteps}
use Rattle.play_base.specs.Casting.{steps_after}
use Rattle.play_base.specs.Beginning.{IsAtPhase}
use Rattle.play_base.specs.Phases.{HavePlayedInOrder}
use Rattle.play_base.proofs.RoleLemmas.{cast_in, roles_in_scene, roles_within, roles_few, moved_on}
use Rattle.one_thread.proofs.phases.play_phase.Goals as goal

pub move_on-requires-clause-within : goal.move_on-requires-clause-within
move_on-requires-clause-within g c =
    let same : c.as_mut_slice.result.now ≡ c.args.station.now.steps.items =
    c.as_mut_slice.ensures.value ∙ ap (λ v. v.items) c.in_ok-next.ensures.steps in
    let cast = cast_in g.scene c.args.number c.args.k c.args.session.now c.args.station.now.steps.items c.requires.0
    c.requires.1.0 c.requires.1.1.0 c.requires.1.1.1.1.1.steps in
    let are = roles_in_scene g.scene c.args.number c.args.k c.args.session.now c.scripts_of-scripts.result.now
    c.as_slice-3.result.now c.in-Ok.roles.items c.requires.0 c.scripts_of-scripts.ensures
    c.as_slice-3.ensures.value c.in-Ok.ensures in
    subst (λ (xs : List ℕ).
    All (λ r. r.number < length xs) (map (role_in c.scripts_of-scripts.result.now) c.as_slice-3.result.now))
    (sym same)
    (roles_within g.scene c.args.k c.args.station.now.steps.items
    (map (role_in c.scripts_of-scripts.result.now) c.as_slice-3.result.now) cast are)

pub move_on-requires-clause-few : goal.move_on-requires-clause-few
move_on-requires-clause-few g c =
    let cast = cast_in g.scene c.args.number c.args.k c.args.session.now c.args.station.now.steps.items c.requires.0
    c.requires.1.0 c.requires.1.1.0 c.requires.1.1.1.1.1.steps in
    let are = roles_in_scene g.scene c.args.number c.args.k c.args.session.now c.scripts_of-scripts.result.now
    c.as_slice-3.result.now c.in-Ok.roles.items c.requires.0 c.scripts_of-scripts.ensures
    c.as_slice-3.ensures.value c.in-Ok.ensures in
    roles_few g.scene c.args.k c.args.station.now.steps.items
    (map (role_in c.scripts_of-scripts.result.now) c.as_slice-3.result.now) cast are

pub returns-clause-ok : goal.returns-clause-ok
returns-clause-ok g c =
    let roles : List PlainRole = map (role_in c.scripts_of-scripts.result.now) c.as_slice-3.result.now in
    let same : c.as_mut_slice.result.now ≡ c.args.station.now.steps.items =
    c.as_mut_slice.ensures.value ∙ ap (λ v. v.items) c.in_ok-next.ensures.steps in
    let cast = cast_in g.scene c.args.number c.args.k c.args.session.now c.args.station.now.steps.items c.requires.0
    c.requires.1.0 c.requires.1.1.0 c.requires.1.1.1.1.1.steps in
    let are = roles_in_scene g.scene c.args.number c.args.k c.args.session.now c.scripts_of-scripts.result.now
    c.as_slice-3.result.now c.in-Ok.roles.items c.requires.0 c.scripts_of-scripts.ensures
    c.as_slice-3.ensures.value c.in-Ok.ensures in
    let moved = moved_on g.scene c.args.k c.args.station.now.steps.items roles cast are in
    let written : (with_items c.play_parts.new.station.steps c.move_on.new.steps).items ≡ c.move_on.new.steps =
    with_items_is c.play_parts.new.station.steps c.move_on.new.steps
    (c.move_on.auto.steps ∙ c.as_mut_slice.ensures.len) in
    let phase = c.requires.1.1.1.1.1.at_phase.phase in
    record {
      at_phase = subst (λ n. IsAtPhase g.scene (n + 1) c.play_parts.new.station.port c.play_parts.new.station.putter
          c.play_parts.new.station.line c.in_ok-next.next) phase c.in_ok-next.ensures.at_phase;
      steps = subst (AreFirstSteps g.scene (c.args.k + 1))
          (sym (written ∙ c.move_on.ensures ∙ ap (steps_after roles) same)) moved;
      played = subst (λ n. HavePlayedInOrder g.scene (n + 1) c.play_parts.new.station.port.journal
          c.play_parts.new.station.line.report.overruns.items) phase c.in_ok-next.ensures.played;
    }
