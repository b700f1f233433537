use Rattle.std.proofs.Common.{◌≤◌, ◌+◌}
use Rattle.tty_calls.specs.Sessions.{session_of}
use Rattle.play_base.specs.Phases.{AreFirstPlayed}
use Rattle.play_base.specs.Played.{AreInOneOrder}
use Rattle.one_thread.proofs.playing.play.Given as goal

abbrev pub invariant-loop-number : goal.invariant-loop-number
invariant-loop-number l = record {
  room_for_runs : l.ports ≤ l.runs.spare + l.number;
  room_for_ends : l.ports ≤ l.ends.spare + l.number;
  played : AreFirstPlayed (session_of l.session) l.number l.runs.items l.ends.items;
  in_order : AreInOneOrder (session_of l.session) l.runs.items;
}
