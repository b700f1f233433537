use Rattle.order_laws.proofs.Losing.{loses_of, all_lost}
use Rattle.order_laws.proofs.laws.what_exceeds_the_buffer_is_lost.Goals as goal

pub returns : goal.returns
returns c p session run legal order =
    all_lost p session run.journal.items run.line.overruns.items (loses_of p session run legal.0 legal.1 order.seen)
