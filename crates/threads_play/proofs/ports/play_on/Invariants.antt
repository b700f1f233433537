use Rattle.threads_play.proofs.ports.play_on.Given as goal

abbrev pub ghost-play_work : goal.ghost-play_work
ghost-play_work g a = g.scene
