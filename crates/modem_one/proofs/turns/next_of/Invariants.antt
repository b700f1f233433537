use Rattle.modem_one.proofs.turns.next_of.Given as goal

abbrev pub ghost-next_by_rank : goal.ghost-next_by_rank
ghost-next_by_rank g a = g.frame
