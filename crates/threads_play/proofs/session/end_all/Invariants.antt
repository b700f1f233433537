use Rattle.std.proofs.Common.{◌≤◌, ◌+◌, length}
use Rattle.tty_calls.specs.Sessions.{session_of}
use Rattle.play_base.specs.Phases.{AreFirstPlayed}
use Rattle.threads_play.proofs.session.end_all.Given as goal

abbrev pub invariant-loop-port : goal.invariant-loop-port
invariant-loop-port l = record {
  room_for_runs : l.count ≤ l.runs.spare + length l.yielded;
  room_for_ends : l.count ≤ l.ends.spare + length l.yielded;
  played : AreFirstPlayed (session_of l.session) (length l.yielded) l.runs.items l.ends.items;
}
