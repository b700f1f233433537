use Rattle.std.proofs.Common.{rules}
use Rattle.many_threads.proofs.thread_bodies.line_thread.Goals as goal

pub play_line-result-requires-clause-seat : goal.play_line-result-requires-clause-seat
play_line-result-requires-clause-seat g c = c.requires.can.here

pub play_line-result-requires-clause-not_over : goal.play_line-result-requires-clause-not_over
play_line-result-requires-clause-not_over g c = c.requires.can.not_over

pub play_line-result-requires-clause-ring : goal.play_line-result-requires-clause-ring
play_line-result-requires-clause-ring g c = c.requires.can.ring

pub play_line-result-requires-clause-sent : goal.play_line-result-requires-clause-sent
play_line-result-requires-clause-sent g c = c.requires.can.sent

pub play_line-result-requires-clause-done : goal.play_line-result-requires-clause-done
play_line-result-requires-clause-done g c = c.requires.can.done

pub play_line-result-requires-clause-good : goal.play_line-result-requires-clause-good
play_line-result-requires-clause-good g c = c.requires.can.good

pub play_line-result-requires-clause-room : goal.play_line-result-requires-clause-room
play_line-result-requires-clause-room g c = c.requires.can.room

pub play_line-result-requires-clause-put : goal.play_line-result-requires-clause-put
play_line-result-requires-clause-put g c = c.requires.can.put

pub returns-then-is_err : goal.returns-then-is_err
returns-then-is_err g c = search rules steps 100000
