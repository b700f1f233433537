use Rattle.job_one.proofs.after_line.go_on.Given as goal

abbrev pub ghost-take_next : goal.ghost-take_next
ghost-take_next g a = g.frame

abbrev pub ghost-take_last : goal.ghost-take_last
ghost-take_last g a = g.frame
