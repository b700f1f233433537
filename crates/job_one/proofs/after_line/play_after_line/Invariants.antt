use Rattle.job_one.specs.Frames.{IsNextTurn}
use Rattle.order_laws.specs.Left.{turns_left}
use Rattle.job_one.specs.Taken.{IsBetweenTurns}
use Rattle.job_one.proofs.after_line.play_after_line.Given as goal

abbrev pub ghost-play_turn : goal.ghost-play_turn
ghost-play_turn g a = g.frame

abbrev pub invariant-loop-next : goal.invariant-loop-next
invariant-loop-next g l =
    record {
      between : IsBetweenTurns g.frame l.roles l.port l.desk l.stand l.calls;
      turn : IsNextTurn g.frame l.roles l.port l.stand l.next;
    }

abbrev pub decreases-loop-next : goal.decreases-loop-next
decreases-loop-next g l = turns_left l.port l.calls
