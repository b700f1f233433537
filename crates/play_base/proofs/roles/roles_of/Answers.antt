use Rattle.std.proofs.Common.{◌≡◌, length, refl, sym, ap, map, ◌∙◌, subst, arith, List, []}
use Rattle.std.specs.Prelude.{All}
use Rattle.std.proofs.lemmas.Result.{IfOk-weaker}
use Rattle.tty_calls.specs.declared.sessions.Script.{Script}
use Rattle.tty_calls.specs.Sessions.{script_of, scripts_on}
use Rattle.legal_runs.specs.Legal.{phase_at}
use Rattle.play_base.specs.Roles.{scene_of, role_in, AreRolesOf}
use Rattle.play_base.specs.Casting.{HaveSameCallers, IsNumbered, own_scripts, scripts_at, cast_of}
use Rattle.play_base.proofs.CastLemmas.{scripts_are, own_scripts_at}
use Rattle.play_base.proofs.RoleLemmas.{phase_numbered, few_names_in, roles_found}
use Rattle.play_base.proofs.roles.roles_of.Goals as goal

pub cast-requires-clause-numbered : goal.cast-requires-clause-numbered
cast-requires-clause-numbered c =
    let s = scene_of c.args.port c.args.session.now in
    let is = scripts_are c.args.session.now c.args.k c.as_slice.result.now c.as_slice-scripts.result.now
    c.index-as_slice-k.result c.requires.phase c.as_slice.ensures c.as_slice-scripts.ensures in
    let own = own_scripts_at c.args.port c.args.session.now.phases.items c.args.k
    (record { lines = []; ticks = []; callers = [] }) c.requires.phase in
    subst (All (IsNumbered c.args.names.now)) (sym (ap (λ xs. own_scripts c.args.port (map script_of xs)) is ∙ own))
    (subst (λ ns. All (IsNumbered ns) (scripts_on c.args.port (phase_at s.session c.args.k))) (sym c.requires.names)
    (phase_numbered s c.args.k c.requires.phase))

pub cast-requires-clause-few : goal.cast-requires-clause-few
cast-requires-clause-few c =
    let few = few_names_in (scene_of c.args.port c.args.session.now) c.requires.within in
    let named = ap (λ ns. length ns) c.requires.names in
    omega (arith, few, named)

pub returns : goal.returns
returns c =
    let s = scene_of c.args.port c.args.session.now in
    let is = scripts_are c.args.session.now c.args.k c.as_slice.result.now c.as_slice-scripts.result.now
    c.index-as_slice-k.result c.requires.phase c.as_slice.ensures c.as_slice-scripts.ensures in
    let own = own_scripts_at c.args.port c.args.session.now.phases.items c.args.k
    (record { lines = []; ticks = []; callers = [] }) c.requires.phase in
    IfOk-weaker c.cast.result
    (λ roles.
    (others : List Script)
    → HaveSameCallers others c.as_slice-scripts.result.now
    → map (role_in others) roles.items ≡ cast_of c.args.names.now c.args.steps.now c.args.port (map script_of others))
    (λ roles. AreRolesOf s c.args.k (map (role_in (scripts_at c.args.session.now c.args.k)) roles.items))
    (λ roles h. roles_found s c.args.k c.args.steps.now c.args.names.now
    (map script_of (scripts_at c.args.session.now c.args.k))
    (map (role_in (scripts_at c.args.session.now c.args.k)) roles.items) c.requires.within
    c.requires.phase c.requires.steps c.requires.names own
    (subst (λ (xs : List Script).
    map (role_in xs) roles.items ≡ cast_of c.args.names.now c.args.steps.now c.args.port (map script_of xs)) is
    (h c.as_slice-scripts.result.now refl)))
    c.cast.ensures
