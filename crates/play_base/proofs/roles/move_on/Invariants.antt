use Rattle.std.proofs.Common.{◌≡◌, map, drop}
use Rattle.play_base.specs.Roles.{role_in}
use Rattle.play_base.specs.Casting.{steps_after}
use Rattle.play_base.proofs.roles.move_on.Given as goal

abbrev pub invariant-loop-role : goal.invariant-loop-role
invariant-loop-role l =
    steps_after (map (role_in l.scripts) (drop l.role-index l.roles)) l.steps
    ≡ steps_after (map (role_in l.scripts) l.roles) l.fn.steps
