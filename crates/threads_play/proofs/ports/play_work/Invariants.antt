use Rattle.threads_play.proofs.ports.play_work.Given as goal

abbrev pub ghost-play_shared : goal.ghost-play_shared
ghost-play_shared g a = g.scene
