use Rattle.modem_one.proofs.after_line.go_on.Given as goal

abbrev pub ghost-take_call : goal.ghost-take_call
ghost-take_call g a = g.frame

abbrev pub ghost-take_last : goal.ghost-take_last
ghost-take_last g a = g.frame
