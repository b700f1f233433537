use Rattle.one_thread.proofs.phases.play_parts.Given as goal

abbrev pub ghost-play_after_line : goal.ghost-play_after_line
ghost-play_after_line g a = g.scene
