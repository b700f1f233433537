use Rattle.std.proofs.Common.{take}
use Rattle.line_steps.specs.Steps.{steps_in}
use Rattle.one_thread.specs.Following.{GoesAlong}
use Rattle.one_thread.specs.LineInside.{line_at, PlaysSteps}
use Rattle.one_thread.proofs.line.play_steps.Given as goal

abbrev pub invariant-loop-part : goal.invariant-loop-part
invariant-loop-part g l = record {
  plays : PlaysSteps (steps_in (take l.part-index l.part-items)) (line_at l.fn.port l.fn.putter l.fn.line)
      (line_at l.port l.putter l.line) l.run l.next;
  goes : GoesAlong g.F.Follower.follows l.fn.port l.port l.fn.follower l.follower;
}
