use Rattle.modem_one.proofs.acts.take_call.Given as goal

abbrev pub ghost-take_plain : goal.ghost-take_plain
ghost-take_plain g a = g.frame

abbrev pub ghost-take_own : goal.ghost-take_own
ghost-take_own g a = g.frame
