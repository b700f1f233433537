use Rattle.one_thread.proofs.after_line.play_turn.Given as goal

abbrev pub ghost-go_on : goal.ghost-go_on
ghost-go_on g a = g.scene
