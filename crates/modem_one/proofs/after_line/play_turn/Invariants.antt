use Rattle.modem_one.proofs.after_line.play_turn.Given as goal

abbrev pub ghost-take_flush : goal.ghost-take_flush
ghost-take_flush g a = g.frame

abbrev pub ghost-go_on : goal.ghost-go_on
ghost-go_on g a = g.frame

abbrev pub ghost-do_item : goal.ghost-do_item
ghost-do_item g a = g.frame

abbrev pub ghost-take_pass : goal.ghost-take_pass
ghost-take_pass g a = g.frame

abbrev pub ghost-tell : goal.ghost-tell
ghost-tell g a = g.frame
