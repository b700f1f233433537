use Rattle.std.proofs.Common.{◌≡◌, length, take, map}
use Rattle.tty_calls.specs.Sessions.{script_of}
use Rattle.play_base.specs.Casting.{own_scripts}
use Rattle.play_base.proofs.roles.count_on.Given as goal

abbrev pub invariant-loop-script : goal.invariant-loop-script
invariant-loop-script l = l.count ≡ length (own_scripts l.port (map script_of (take l.script-index l.script-items)))
