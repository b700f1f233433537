use Rattle.modem_one.proofs.turns.next_by_rank.Given as goal

abbrev pub ghost-first_of : goal.ghost-first_of
ghost-first_of g a = g.frame

abbrev pub ghost-next_of_others : goal.ghost-next_of_others
ghost-next_of_others g a = g.frame
