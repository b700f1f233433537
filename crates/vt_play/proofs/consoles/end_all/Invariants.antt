use Rattle.std.proofs.Common.{◌≤◌, ◌+◌, length}
use Rattle.tty_calls.specs.Sessions.{PlainSession}
use Rattle.play_base.specs.Phases.{AreFirstPlayed}
use Rattle.vt_play.specs.Parts.{StandAtEnd}
use Rattle.vt_play.proofs.consoles.end_all.Given as goal

abbrev pub invariant-loop-console : goal.invariant-loop-console
invariant-loop-console l = record {
  room_for_runs : l.count ≤ l.runs.spare + length l.yielded;
  room_for_ends : l.count ≤ l.ends.spare + length l.yielded;
  played : (x : PlainSession) → StandAtEnd x l.yielded → AreFirstPlayed x (length l.yielded) l.runs.items l.ends.items;
}
