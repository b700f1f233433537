use Rattle.many_threads.proofs.thread_bodies.tick_all.Goals as goal

pub play_clock-result-requires-clause-seat : goal.play_clock-result-requires-clause-seat
play_clock-result-requires-clause-seat g c = c.requires.can.here

pub play_clock-result-requires-clause-not_over : goal.play_clock-result-requires-clause-not_over
play_clock-result-requires-clause-not_over g c = c.requires.can.not_over
