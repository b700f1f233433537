use Rattle.threads_play.proofs.running.flush_and_call.Goals as goal

pub play_callers-others-requires-clause-seats : goal.play_callers-others-requires-clause-seats
play_callers-others-requires-clause-seats g c κs within = c.requires.callers.seats

pub play_callers-others-requires-clause-count : goal.play_callers-others-requires-clause-count
play_callers-others-requires-clause-count g c κs within = c.requires.callers.count

pub play_callers-others-requires-clause-cast : goal.play_callers-others-requires-clause-cast
play_callers-others-requires-clause-cast g c κs within = c.requires.callers.cast
