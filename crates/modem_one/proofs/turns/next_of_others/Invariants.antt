use Rattle.modem_one.proofs.turns.next_of_others.Given as goal

abbrev pub ghost-next_in_vain : goal.ghost-next_in_vain
ghost-next_in_vain g a = g.frame
