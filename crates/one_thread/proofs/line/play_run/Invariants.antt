use Rattle.std.proofs.Common.{◌≤◌, ◌-◌, length, take}
use Rattle.uart_line.specs.GoodSteps.{good_steps}
use Rattle.one_thread.specs.Following.{GoesAlong}
use Rattle.one_thread.specs.LineInside.{line_at, PlaysSteps}
use Rattle.one_thread.proofs.line.play_run.Given as goal

abbrev pub invariant-loop-at : goal.invariant-loop-at
invariant-loop-at g l = record {
  plays : PlaysSteps (take l.at (good_steps l.bytes)) (line_at l.fn.port l.fn.putter l.fn.line)
      (line_at l.port l.putter l.line) l.run l.next;
  within : l.at ≤ length l.bytes;
  goes : GoesAlong g.F.Follower.follows l.fn.port l.port l.fn.follower l.follower;
}

abbrev pub decreases-loop-at : goal.decreases-loop-at
decreases-loop-at g l = length l.bytes - l.at
