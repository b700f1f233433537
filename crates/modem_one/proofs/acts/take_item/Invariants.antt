use Rattle.modem_one.proofs.acts.take_item.Given as goal

abbrev pub ghost-hang_up : goal.ghost-hang_up
ghost-hang_up g a = g.frame
