use Rattle.std.proofs.Common.{◌≤◌, take}
use Rattle.tty_calls.specs.Limits.{character_count}
use Rattle.tty_calls.specs.Sessions.{session_of}
use Rattle.play_base.proofs.ports.room_on.Given as goal

abbrev pub invariant-loop-k : goal.invariant-loop-k
invariant-loop-k l = character_count l.number (take l.k (session_of l.session).phases) ≤ l.steps
