use Rattle.modem_one.proofs.turns.next_in_vain.Given as goal

abbrev pub ghost-first_of : goal.ghost-first_of
ghost-first_of g a = g.frame
