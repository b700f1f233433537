use Rattle.std.proofs.Common.{replicate, sym, subst, ap, ◌∙◌}
use Rattle.std.specs.Prelude.{None}
use Rattle.play_base.specs.Roles.{scene_of, AreFirstSteps}
use Rattle.play_base.specs.Casting.{scripts_at}
use Rattle.many_threads.specs.Cast.{seated}
use Rattle.many_threads.proofs.Seated.{AreBelow, all_below}
use Rattle.threads_play.proofs.ports.cast_roles.Goals as goal

pub roles_of-requires-clause-steps : goal.roles_of-requires-clause-steps
roles_of-requires-clause-steps c = subst (AreFirstSteps (scene_of c.args.port.now.number c.args.session.now) c.args.k)
    (sym c.as_slice-steps.ensures.value) c.requires.steps

pub seat_roles-requires : goal.seat_roles-requires
seat_roles-requires c =
    let port = c.args.port.now in
    subst (AreBelow port.callers) (sym c.as_slice.ensures.value)
    (all_below (scene_of port.number c.args.session.now) c.args.k (scripts_at c.args.session.now c.args.k)
    c.in_ok-roles.roles.items port.callers c.requires.callers c.in_ok-roles.ensures)

pub returns-clause-cast : goal.returns-clause-cast
returns-clause-cast c =
    c.in_ok-cast.ensures ∙ ap (λ roles. seated roles (replicate c.args.port.now.callers None)) c.as_slice.ensures.value
