use Rattle.job_one.proofs.after_line.take_plain.Given as goal

abbrev pub ghost-take_call : goal.ghost-take_call
ghost-take_call g a = g.frame

abbrev pub ghost-take_stop : goal.ghost-take_stop
ghost-take_stop g a = g.frame
