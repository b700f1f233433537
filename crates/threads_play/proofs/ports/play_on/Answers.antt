use Rattle.std.proofs.Common.{rules, ◌≡◌, ◌<◌, ◌+◌, ℕ, List, Option, Result, Ok, Vec}
use Rattle.std.proofs.Common.{Global, length, map, replicate, refl, sym, ap, ◌∙◌, subst}
use Rattle.std.specs.Prelude.{None, All, IfOk, sum}
use Rattle.std.specs.Vec.{with_items}
use Rattle.std.proofs.lemmas.List.{with_items_is}
use Rattle.tty_calls.specs.Limits.{IsWithinLimits}
use Rattle.tty_calls.specs.declared.sessions.Script.{Script}
use Rattle.tty_calls.specs.declared.sessions.Session.{Session}
use Rattle.tty_calls.specs.Sessions.{line_on, ticks_on, counts_on}
use Rattle.legal_runs.specs.Legal.{phase_at}
use Rattle.play_base.specs.Roles.{Scene, scene_of, names_in, role_in, AreRolesOf, AreFirstSteps}
use Rattle.play_base.specs.declared.roles.Role.{Role}
use Rattle.play_base.specs.Casting.{scripts_at, steps_after}
use Rattle.play_base.proofs.RoleLemmas.{cast_in, roles_in_scene, roles_within, roles_few, moved_on}
use Rattle.play_base.specs.declared.stations.Station.{Station}
use Rattle.threads_play.specs.declared.ports.PortInPlay.{PortInPlay}
use Rattle.many_threads.specs.Cast.{seated}
use Rattle.many_threads.specs.InPlay.{IsBeforePhase}
use Rattle.many_threads.specs.PhaseEnds.{PhaseComes}
use Rattle.many_threads.proofs.Seated.{cast_is}
use Rattle.many_threads.proofs.Onward.{at_ok, can_play_on, stands_next}
use Rattle.threads_play.proofs.ports.play_on.Goals as goal

-- the callers' next steps are not touched by the phase
same_steps : {xs : List ℕ} (old port : PortInPlay) (left : Station)
    → xs ≡ left.steps.items
    → left.steps ≡ port.station.steps
    → port ≡ old
    → xs ≡ old.station.steps.items
same_steps old port left taken same is = taken ∙ (ap (λ v. v.items) same ∙ ap (λ p. p.station.steps.items) is)

-- the roles that were found, in the scene
are_roles : {E : Type 0} (s : Scene) (number k : ℕ) (session : Session) (scripts : List Script) (rs : List Role)
    (both : Vec Role Global × Vec (Option Role) Global) (result : Result (Vec Role Global × Vec (Option Role) Global) E)
    → s ≡ scene_of number session
    → scripts ≡ scripts_at session k
    → rs ≡ both.0.items
    → result ≡ Ok both
    → IfOk result (λ r. AreRolesOf (scene_of number session) k (map (role_in (scripts_at session k)) r.0.items))
    → AreRolesOf s k (map (role_in scripts) rs)
are_roles s number k session scripts rs both result scene same equal is found =
    roles_in_scene s number k session scripts rs both.0.items scene same equal
    (at_ok result both (λ r. AreRolesOf (scene_of number session) k (map (role_in (scripts_at session k)) r.0.items))
    is found)

pub cast_roles-roles_and_cast-requires-clause-steps : goal.cast_roles-roles_and_cast-requires-clause-steps
cast_roles-roles_and_cast-requires-clause-steps g c =
    subst (λ (x : Scene). AreFirstSteps x c.args.k c.args.port.station.steps.items)
    c.requires.1.1.1.1.0 c.requires.1.1.1.1.1.1.1.1.1.1.steps

pub play_work-requires : goal.play_work-requires
play_work-requires g c κs within =
    let old = c.args.port in
    let number = old.number in
    let port = c.in_ok-port.port in
    let is : port ≡ old = c.in_ok-port.ensures.kept in
    let roles = c.in_ok-port.roles in
    let e : g.scene ≡ scene_of number c.args.session.now = c.requires.1.1.1.1.0 in
    let e' : g.scene ≡ scene_of port.number c.args.session.now =
    subst (λ (p : PortInPlay). g.scene ≡ scene_of p.number c.args.session.now) (sym is) e in
    let below : c.args.k < length g.scene.session.phases =
    subst (λ (x : Scene). c.args.k < length x.session.phases) (sym e) c.requires.1.1.1.1.1.1.0 in
    let all : old.callers ≡ sum (counts_on g.scene.port g.scene.session) =
    subst (λ (x : Scene). old.callers ≡ sum (counts_on x.port x.session)) (sym e) c.requires.1.1.1.1.1.1.1.1.1.0 in
    let before : IsBeforePhase g.scene c.args.k port.station c.args.run =
    subst (λ (p : PortInPlay). IsBeforePhase g.scene c.args.k p.station c.args.run) (sym is)
    c.requires.1.1.1.1.1.1.1.1.1.1 in
    let result = c.cast_roles-roles_and_cast.result in
    let both : Vec Role Global × Vec (Option Role) Global = (roles, c.in_ok-port.cast) in
    let seats = at_ok result both (λ r. r.1.items ≡ seated r.0.items (replicate old.callers None))
    c.in_ok-port.ensures.made c.cast_roles-roles_and_cast.ensures.cast in
    let are = are_roles g.scene number c.args.k c.args.session.now c.scripts_of-scripts.result.now roles.items both
    result e c.scripts_of-scripts.ensures refl c.in_ok-port.ensures.made c.cast_roles-roles_and_cast.ensures.roles in
    let cast = cast_is g.scene c.args.k c.scripts_of-scripts.result.now roles.items c.as_slice.result.now old.callers
    all are (c.as_slice.ensures.value ∙ seats) in (
      search rules,
      (
        search rules,
        (
          search rules,
          (
            search rules,
            can_play_on g.scene c.args.k old.callers port.station _ c.phase.ensures
                (subst (λ (x : Scene). IsWithinLimits x.session) (sym e) c.requires.1.1.1.1.1.0) below before
                (subst (λ (x : Scene). c.steps_of.result.now.items ≡ line_on x.port (phase_at x.session c.args.k))
                (sym e') c.steps_of.ensures.line) c.steps_of.ensures.good
                (subst (λ (x : Scene). c.ticks_of.result ≡ ticks_on x.port (phase_at x.session c.args.k)) (sym e')
                c.ticks_of.ensures)
                all cast,
          ),
        ),
      ),
    )

pub move_on-requires-clause-within : goal.move_on-requires-clause-within
move_on-requires-clause-within g c =
    let old = c.args.port in
    let e = c.requires.1.1.1.1.0 in
    let cast = cast_in g.scene old.number c.args.k c.args.session.now old.station.steps.items e c.requires.1.1.1.1.1.0
    c.requires.1.1.1.1.1.1.0 c.requires.1.1.1.1.1.1.1.1.1.1.steps in
    let are = are_roles g.scene old.number c.args.k c.args.session.now c.scripts_of-scripts.result.now
    c.as_slice-2.result.now (c.in_ok-port.roles, c.in_ok-port.cast) c.cast_roles-roles_and_cast.result e
    c.scripts_of-scripts.ensures c.as_slice-2.ensures.value c.in_ok-port.ensures.made
    c.cast_roles-roles_and_cast.ensures.roles in
    let same = same_steps old c.in_ok-port.port c.in_ok-left.left.station c.as_mut_slice.ensures.value
    c.in_ok-left.ensures.steps c.in_ok-port.ensures.kept in
    subst (λ (xs : List ℕ).
    All (λ r. r.number < length xs) (map (role_in c.scripts_of-scripts.result.now) c.as_slice-2.result.now))
    (sym same)
    (roles_within g.scene c.args.k old.station.steps.items
    (map (role_in c.scripts_of-scripts.result.now) c.as_slice-2.result.now) cast are)

pub move_on-requires-clause-few : goal.move_on-requires-clause-few
move_on-requires-clause-few g c =
    let old = c.args.port in
    let e = c.requires.1.1.1.1.0 in
    let cast = cast_in g.scene old.number c.args.k c.args.session.now old.station.steps.items e c.requires.1.1.1.1.1.0
    c.requires.1.1.1.1.1.1.0 c.requires.1.1.1.1.1.1.1.1.1.1.steps in
    let are = are_roles g.scene old.number c.args.k c.args.session.now c.scripts_of-scripts.result.now
    c.as_slice-2.result.now (c.in_ok-port.roles, c.in_ok-port.cast) c.cast_roles-roles_and_cast.result e
    c.scripts_of-scripts.ensures c.as_slice-2.ensures.value c.in_ok-port.ensures.made
    c.cast_roles-roles_and_cast.ensures.roles in
    roles_few g.scene c.args.k old.station.steps.items
    (map (role_in c.scripts_of-scripts.result.now) c.as_slice-2.result.now) cast are

pub returns : goal.returns
returns g c =
    let old = c.args.port in
    let number = old.number in
    let port = c.in_ok-port.port in
    let is : port ≡ old = c.in_ok-port.ensures.kept in
    let e : g.scene ≡ scene_of number c.args.session.now = c.requires.1.1.1.1.0 in
    let new = c.in_ok-left.left.station in
    let first = old.station.steps.items in
    let known = c.requires.1.1.1.1.1.1.1.1.1.1 in
    let before : IsBeforePhase g.scene c.args.k port.station c.args.run =
    subst (λ (p : PortInPlay). IsBeforePhase g.scene c.args.k p.station c.args.run) (sym is) known in
    let below : c.args.k < length g.scene.session.phases =
    subst (λ (x : Scene). c.args.k < length x.session.phases) (sym e) c.requires.1.1.1.1.1.1.0 in
    let roles = map (role_in c.scripts_of-scripts.result.now) c.as_slice-2.result.now in
    let same : c.as_mut_slice.result.now ≡ first =
    same_steps old port new c.as_mut_slice.ensures.value c.in_ok-left.ensures.steps is in
    let cast = cast_in g.scene number c.args.k c.args.session.now first e
    c.requires.1.1.1.1.1.0 c.requires.1.1.1.1.1.1.0 known.steps in
    let are = are_roles g.scene number c.args.k c.args.session.now c.scripts_of-scripts.result.now
    c.as_slice-2.result.now (c.in_ok-port.roles, c.in_ok-port.cast) c.cast_roles-roles_and_cast.result e
    c.scripts_of-scripts.ensures c.as_slice-2.ensures.value c.in_ok-port.ensures.made
    c.cast_roles-roles_and_cast.ensures.roles in
    let written : (with_items new.steps c.move_on.new.steps).items ≡ c.move_on.new.steps =
    with_items_is new.steps c.move_on.new.steps (c.move_on.auto.steps ∙ c.as_mut_slice.ensures.len) in
    let steps : AreFirstSteps g.scene (c.args.k + 1) (with_items new.steps c.move_on.new.steps).items =
    subst (AreFirstSteps g.scene (c.args.k + 1)) (sym (written ∙ (c.move_on.ensures ∙ ap (steps_after roles) same)))
    (moved_on g.scene c.args.k first roles cast are) in
    let comes : PhaseComes g.scene c.args.k port.station new c.in_ok-left.left.end =
    subst (λ (n : ℕ). PhaseComes g.scene n port.station new c.in_ok-left.left.end)
    (c.phase.ensures ∙ before.at_phase.phase) c.in_ok-left.ensures.comes in
    record {
      number =
          c.in_ok-left.ensures.number ∙ (ap (λ (p : PortInPlay). p.number) is ∙ sym (ap (λ (x : Scene). x.port) e));
      names =
          c.in_ok-left.ensures.names
          ∙ (ap (λ (p : PortInPlay). p.names) is
          ∙ subst (λ (x : Scene). old.names ≡ names_in x) (sym e) c.requires.1.1.1.1.1.1.1.1.0);
      callers =
          c.in_ok-left.ensures.callers
          ∙ (ap (λ (p : PortInPlay). p.callers) is
          ∙ subst (λ (x : Scene). old.callers ≡ sum (counts_on x.port x.session)) (sym e)
          c.requires.1.1.1.1.1.1.1.1.1.0);
      stands = stands_next g.scene c.args.k port.station new
          (record {
            port = new.port;
            putter = new.putter;
            line = new.line;
            steps = with_items new.steps c.move_on.new.steps;
          }) c.args.run c.in_ok-left.left.end refl refl refl below before comes steps;
    }
