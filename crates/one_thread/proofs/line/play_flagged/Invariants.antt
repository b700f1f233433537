use Rattle.std.proofs.Common.{map, take}
use Rattle.line_steps.specs.Steps.{rx_step}
use Rattle.one_thread.specs.Following.{GoesAlong}
use Rattle.one_thread.specs.LineInside.{line_at, PlaysSteps}
use Rattle.one_thread.proofs.line.play_flagged.Given as goal

abbrev pub invariant-loop-place : goal.invariant-loop-place
invariant-loop-place g l = record {
  plays : PlaysSteps (take l.place (map (rx_step l.flag) l.bytes)) (line_at l.fn.port l.fn.putter l.fn.line)
      (line_at l.port l.putter l.line) l.run l.next;
  goes : GoesAlong g.F.Follower.follows l.fn.port l.port l.fn.follower l.follower;
}
