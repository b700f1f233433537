use Rattle.job_one.proofs.turns.take_own.Given as goal

abbrev pub ghost-hang_up : goal.ghost-hang_up
ghost-hang_up g a = g.frame
