use Rattle.std.proofs.Common.{◌≡◌, Option, Vec, Global, None, map, replicate}
use Rattle.play_base.specs.Roles.{AreRolesOf, role_in, scene_of}
use Rattle.play_base.specs.Casting.{scripts_at}
use Rattle.play_base.specs.declared.roles.Role.{Role}
use Rattle.many_threads.specs.Cast.{seated}
use Rattle.many_threads.proofs.Onward.{at_ok}
use Rattle.vt_threads.proofs.PartedMade.{few_callers_in, parted_full, ring_before}
use Rattle.vt_threads.proofs.parting.part_console.Goals as goal

pub part_shared-requires-clause-few : goal.part_shared-requires-clause-few
part_shared-requires-clause-few c = few_callers_in c.args.session.now c.args.number c.args.k c.args.console
    c.in_ok-console.console c.requires.within c.requires.before c.in_ok-console.ensures.kept

pub part_shared-requires-clause-ring : goal.part_shared-requires-clause-ring
part_shared-requires-clause-ring c = ring_before c.args.session.now c.args.number c.args.k c.args.console
    c.in_ok-console.console c.requires.before c.in_ok-console.ensures.kept

pub returns-in-Full : goal.returns-in-Full
returns-in-Full c =
    let calls = c.args.session.now.calls in
    let old = c.args.console in
    let roles = c.in_ok-console.roles in
    let cast = c.in_ok-console.cast in
    let both : Vec Role Global × Vec (Option Role) Global = (roles, cast) in
    let result = c.cast_console-roles_and_cast.result in
    parted_full calls c.args.number c.args.k old c.in_ok-console.console roles cast c.part_full.result
    c.in_ok-console.ensures.kept c.in-Full.is c.part_full.ensures.full
    c.part_full.ensures.casting c.part_full.ensures.steps
    (at_ok result both
    (λ r. AreRolesOf (scene_of c.args.number calls) c.args.k (map (role_in (scripts_at calls c.args.k)) r.0.items))
    c.in_ok-console.ensures.made c.cast_console-roles_and_cast.ensures.roles)
    (at_ok result both (λ r. r.1.items ≡ seated r.0.items (replicate old.callers None)) c.in_ok-console.ensures.made
    c.cast_console-roles_and_cast.ensures.cast)
