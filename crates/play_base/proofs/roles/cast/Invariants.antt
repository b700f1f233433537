use Rattle.std.proofs.Common.{◌≡◌, List, take, map}
use Rattle.tty_calls.specs.declared.sessions.Script.{Script}
use Rattle.tty_calls.specs.Sessions.{script_of}
use Rattle.play_base.specs.Roles.{role_in}
use Rattle.play_base.specs.Casting.{HaveSameCallers, cast_of}
use Rattle.play_base.proofs.roles.cast.Given as goal

abbrev pub invariant-loop-place : goal.invariant-loop-place
invariant-loop-place l =
    (others : List Script)
    → HaveSameCallers others l.scripts
    → map (role_in others) l.roles.items ≡ cast_of l.names l.steps l.port (map script_of (take l.place others))
