use Rattle.many_threads.proofs.thread_bodies.flusher_thread.Goals as goal

pub play_flusher-result-requires-clause-seat : goal.play_flusher-result-requires-clause-seat
play_flusher-result-requires-clause-seat g c = c.requires.can.here

pub play_flusher-result-requires-clause-next : goal.play_flusher-result-requires-clause-next
play_flusher-result-requires-clause-next g c = c.requires.can.next
