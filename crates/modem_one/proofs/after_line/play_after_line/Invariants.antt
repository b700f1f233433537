use Rattle.modem_one.specs.AfterLine.{IsBetween, IsTurnOf}
use Rattle.modem_one.specs.Left.{turns_left}
use Rattle.modem_one.proofs.after_line.play_after_line.Given as goal

abbrev pub ghost-next_of : goal.ghost-next_of
ghost-next_of g a = g.frame

abbrev pub ghost-play_turn : goal.ghost-play_turn
ghost-play_turn g a = g.frame

abbrev pub invariant-loop-next : goal.invariant-loop-next
invariant-loop-next g l =
    record {
      between : IsBetween g.frame l.roles l.port l.desk l.stand l.calls l.items;
      turn : IsTurnOf g.frame l.roles l.port l.desk l.stand l.next;
    }

abbrev pub decreases-loop-next : goal.decreases-loop-next
decreases-loop-next g l = turns_left l.port l.calls l.items
