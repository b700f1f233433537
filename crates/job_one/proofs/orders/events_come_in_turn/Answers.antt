use Rattle.job_one.proofs.Ordering.{ordered_stays, ordered_sent, ordered_down, ordered_own, ordered_passed}
use Rattle.job_one.proofs.orders.events_come_in_turn.Goals as goal

pub returns : goal.returns
returns c = record {
  stays = ordered_stays;
  sent = ordered_sent;
  down = ordered_down;
  own = ordered_own;
  passed = ordered_passed;
}
