use Rattle.std.proofs.Common.{sym, subst}
use Rattle.play_base.specs.Roles.{scene_of}
use Rattle.play_base.specs.Casting.{scripts_at}
use Rattle.many_threads.proofs.Seated.{AreBelow, all_below}
use Rattle.vt_threads.proofs.parting.cast_console.Goals as goal

pub seat_roles-requires : goal.seat_roles-requires
seat_roles-requires c =
    let console = c.args.console.now in
    subst (AreBelow console.callers) (sym c.as_slice.ensures.value)
    (all_below (scene_of c.args.number c.args.session.now) c.args.k (scripts_at c.args.session.now c.args.k)
    c.in_ok-roles.roles.items console.callers c.requires.callers c.in_ok-roles.ensures)
