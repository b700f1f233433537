use Rattle.modem_one.proofs.after_line.do_item.Given as goal

abbrev pub ghost-take_item : goal.ghost-take_item
ghost-take_item g a = g.frame
