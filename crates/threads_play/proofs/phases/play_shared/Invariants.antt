use Rattle.threads_play.proofs.phases.play_shared.Given as goal

abbrev pub ghost-play_threads : goal.ghost-play_threads
ghost-play_threads g a = g.scene
