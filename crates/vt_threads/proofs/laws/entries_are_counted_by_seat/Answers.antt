use Rattle.vt_threads.proofs.Counting.{all_counted}
use Rattle.vt_threads.proofs.laws.entries_are_counted_by_seat.Goals as goal

pub returns : goal.returns
returns c n xs h = all_counted n xs h
