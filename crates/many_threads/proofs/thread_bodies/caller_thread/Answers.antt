use Rattle.many_threads.proofs.thread_bodies.caller_thread.Goals as goal

pub play_caller-result-requires-clause-seat : goal.play_caller-result-requires-clause-seat
play_caller-result-requires-clause-seat g c = c.requires.can.here

pub play_caller-result-requires-clause-known : goal.play_caller-result-requires-clause-known
play_caller-result-requires-clause-known g c = c.requires.can.known

pub play_caller-result-requires-clause-within : goal.play_caller-result-requires-clause-within
play_caller-result-requires-clause-within g c = c.requires.can.within

pub play_caller-result-requires-clause-few : goal.play_caller-result-requires-clause-few
play_caller-result-requires-clause-few g c = c.requires.can.few

pub play_caller-result-requires-clause-between : goal.play_caller-result-requires-clause-between
play_caller-result-requires-clause-between g c = c.requires.can.between
