use Rattle.threads_play.proofs.running.run_all.Goals as goal

pub start_line-requires-clause-can : goal.start_line-requires-clause-can
start_line-requires-clause-can g c κs within = c.requires.can.line

pub tick_and_flush-others-requires-clause-clock : goal.tick_and_flush-others-requires-clause-clock
tick_and_flush-others-requires-clause-clock g c κs within = c.requires.can.clock

pub tick_and_flush-others-requires-clause-flusher : goal.tick_and_flush-others-requires-clause-flusher
tick_and_flush-others-requires-clause-flusher g c κs within = c.requires.can.flusher

pub tick_and_flush-others-requires-clause-callers : goal.tick_and_flush-others-requires-clause-callers
tick_and_flush-others-requires-clause-callers g c κs within = c.requires.can.callers
